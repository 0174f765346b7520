pub mod SeenEdits
pub mod NotedLaws

pub mod PatternLaws
pub mod DrawnLaws
pub mod ListedMaps
pub mod MacrocellLaws
pub mod SeenLaws
pub mod SampleLaws

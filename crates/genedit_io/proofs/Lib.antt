pub mod PullLaws

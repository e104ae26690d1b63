pub mod DatasetAnswer
pub mod PlanRest
pub mod ValueMessage

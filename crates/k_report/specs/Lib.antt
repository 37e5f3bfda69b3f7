pub mod DictLines
pub mod Graph
pub mod Writing
pub mod Laws
pub mod PlanLines
pub mod Report

pub mod IndexLaws
pub mod MacroLaws
pub mod PlanLaws

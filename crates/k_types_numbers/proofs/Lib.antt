pub mod CountingLaws
pub mod DeclarationForms
pub mod ExpressionForms
pub mod LeftForms
pub mod StatementForms
pub mod UnitForms

pub mod Pages
pub mod ShadowPages

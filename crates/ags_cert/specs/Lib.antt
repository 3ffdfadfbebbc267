-- what the public contracts cite
pub mod ValueAt
pub use Rattle.ags_certtype.specs.Cert
pub use Rattle.ags_certtype.specs.Limit
pub use Rattle.ags_certtype.specs.Index
pub use Rattle.ags_certread.specs.Kept
pub use Rattle.ags_certread.specs.Length
pub use Rattle.ags_certread.specs.Pieces
pub use Rattle.ags_certread.specs.Version
pub use Rattle.ags_certtext.specs.FaultText
pub use Rattle.ags_certtext.specs.Text
pub use Rattle.ags_certsend.specs.CertText

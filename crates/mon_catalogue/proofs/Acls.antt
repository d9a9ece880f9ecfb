-- What mon_acl proves of the texts of permission lists.
pub use Rattle.acl_text.proofs.Whole.{reading_spells, reads_back}

use Rattle.std.proofs.Common.{sym, ◌∙◌, inl, inr, ◌∷◌}
use Rattle.ags_deda.specs.Form.{entry_has, readout_has, fits}
use Rattle.ags_deda.proofs.KeyLemmas.{lawful_one, lawful_other}
use Rattle.ags_deda.proofs.keyings.Keying.with.Goals as goal

pub returns-then-readout-clause-lawful : goal.returns-then-readout-clause-lawful
returns-then-readout-clause-lawful c = λ keys is.
    let entry = c.fits_entry-entry.ensures keys is in
    let readout = c.fits_readout-readout.ensures keys is in (
      elim c.if-readout.either [
        | inl fits_it ↦ lawful_one (fits entry_has (c.args.key ∷ keys)) (fits readout_has (c.args.key ∷ keys)) (sym entry ∙ fits_it)
        | inr other ↦ lawful_other (fits entry_has (c.args.key ∷ keys)) (fits readout_has (c.args.key ∷ keys)) (sym readout ∙ other.1)
      ],
      record { entry = entry; readout = readout; count = c.one_more.ensures keys c.args.key is.count; held = c.is_hold.ensures },
    )

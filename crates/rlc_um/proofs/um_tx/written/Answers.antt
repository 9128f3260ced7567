use Rattle.rlc_um.proofs.Sizes.{umd_within}
use Rattle.rlc_um.proofs.um_tx.written.Goals as goal

pub returns-clause-within : goal.returns-clause-within
returns-clause-within c =
    rw (c.in_ok-octets.ensures, c.deref.ensures.value, c.as_slice.ensures)
    (umd_within _ _ _ _ _ _ c.requires.lens c.requires.within)

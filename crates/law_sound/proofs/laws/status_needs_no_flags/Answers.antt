use Rattle.law_sound.proofs.AlikeStatuses.{status_needs_no_flags}
use Rattle.law_sound.proofs.laws.status_needs_no_flags.Goals as goal

pub returns : goal.returns
returns c = status_needs_no_flags

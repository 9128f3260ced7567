use Rattle.std.proofs.Common.{w32}
use Rattle.std.proofs.lemmas.Simd.{below_from_Fits}
use Rattle.eps_sec.proofs.LaneLemmas.{lanes-state}
use Rattle.eps_sec.proofs.ciphering.octets_in.Goals as goal

pub returns : goal.returns
returns c = lanes-state c.args.words (below_from_Fits w32 c.args.words c.fits-words.1)

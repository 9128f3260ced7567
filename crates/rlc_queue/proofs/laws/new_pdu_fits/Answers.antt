use Rattle.rlc_queue.proofs.Fits.{fitting}
use Rattle.rlc_queue.proofs.laws.new_pdu_fits.Goals as goal

pub returns : goal.returns
returns c = fitting

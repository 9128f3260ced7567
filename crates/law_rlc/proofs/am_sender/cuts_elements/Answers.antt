use Rattle.law_rlc.proofs.AmSender.SegmentLens.{cuts}
use Rattle.law_rlc.proofs.am_sender.cuts_elements.Goals as goal

pub returns : goal.returns
returns c = cuts

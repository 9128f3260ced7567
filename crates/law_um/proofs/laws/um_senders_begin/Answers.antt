use Rattle.law_um.proofs.UmSending.{um_senders_begin}
use Rattle.law_um.proofs.laws.um_senders_begin.Goals as goal

pub returns : goal.returns
returns c = um_senders_begin

use Rattle.l2_bits.proofs.FieldsAgain.{fields_again}
use Rattle.l2_bits.proofs.laws.reads_what_was_written.Goals as goal

pub returns : goal.returns
returns c = fields_again

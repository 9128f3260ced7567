use Rattle.std.proofs.Common.{◌∙◌, [], slice_index_or}
use Rattle.eps_sec.specs.Words.{state}
use Rattle.eps_sec.proofs.FrontLemmas.{first_word, last_octet, two_rounds}
use Rattle.eps_sec.proofs.cipher.Front.encrypt.Goals as goal

pub returns : goal.returns
returns c =
    let key = c.args.schedule.now in
    let b = c.args.block.now in
    let octet = c.row_3.ensures
    ∙ rw c.schedule.view_is at (last_octet (slice_index_or c.schedule.inside.keys 0 []) b) in
    let word = first_word key b c.args.self.now.word c.from_row_3.result c.row_3.result c.requires.0
    c.from_row_3.ensures octet in
    c.encrypt_from.ensures (state b)
    (two_rounds key b c.args.self.now.words _ _ _ _ _ word c.requires.1
    (rw c.row_0.ensures at c.from_row_0.ensures)
    (rw c.row_3-2.ensures at c.from_row_3-2.ensures)
    (rw c.row_2.ensures at c.from_row_2.ensures)
    (rw c.row_1.ensures at c.from_row_1.ensures))

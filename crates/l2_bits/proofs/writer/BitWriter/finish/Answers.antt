use Rattle.std.proofs.Common.{◌≡◌, ℕ, ◌+◌, ◌*◌, ◌++◌, length, ap, ◌∙◌, sym, arith}
use Rattle.std.proofs.lemmas.List.{length-append, append-nil}
use Rattle.l2_bits.specs.Bits.{bits, bits_of}
use Rattle.l2_bits.proofs.BitFields.{length-bits, length-bits_of}
use Rattle.l2_bits.proofs.writer.BitWriter.finish.Goals as goal

pub returns : goal.returns
unfolding bits
returns c =
    let i = c.self.inside in
    let len : length c.args.self ≡ 8 * length i.octets.items + i.count =
    rw (← c.self.view_is, length-append, length-bits, length-bits_of) (omega arith) in
    let none : i.count ≡ 0 = omega arith in
    rw c.from_vec.ensures (sym (append-nil (bits_of i.octets.items))
    ∙ ap (λ (k : ℕ). bits_of i.octets.items ++ bits k i.pending) (sym none) ∙ c.self.view_is)

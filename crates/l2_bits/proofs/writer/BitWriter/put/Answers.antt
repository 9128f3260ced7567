use Rattle.std.proofs.Common.{◌≡◌, ℕ, ◌+◌, ◌*◌, ◌%◌, ◌^◌, ◌++◌, List, Bool, length, ap, ◌∙◌, sym, append_assoc, arith}
use Rattle.std.proofs.lemmas.List.{length-append}
use Rattle.l2_bits.specs.Bits.{bits, bits_of}
use Rattle.l2_bits.proofs.BitFields.{put_is, put_fits, bits-cat, length-bits}
use Rattle.l2_bits.proofs.writer.BitWriter.put.Goals as goal

pub settle-pending-requires-clause-fits : goal.settle-pending-requires-clause-fits
settle-pending-requires-clause-fits c =
    let i = c.self.inside in
    rw (put_is i.count c.args.n i.pending c.self.invariant.0 c.requires.few c.self.invariant.1, c.from.ensures)
    (put_fits i.count c.args.n i.pending c.args.value c.self.invariant.1 c.requires.fits)

pub returns-clause-ok : goal.returns-clause-ok
returns-clause-ok c =
    let i = c.self.inside in
    let n = c.args.n in
    let acc : i.pending * 2 ^ n % 2 ^ 64 + c.from.result ≡ i.pending * 2 ^ n + c.args.value =
    rw (put_is i.count n i.pending c.self.invariant.0 c.requires.few c.self.invariant.1, c.from.ensures) (omega arith)
    in
    c.settle-pending.ensures.same
    ∙ rw (c.in_ok-reserve.ensures.items) (ap (λ (p : ℕ). bits_of i.octets.items ++ bits (i.count + n) p) acc)
    ∙ ap (λ (w : List Bool). bits_of i.octets.items ++ w) (bits-cat i.count n i.pending c.args.value c.requires.fits)
    ∙ sym (append_assoc (bits_of i.octets.items) (bits i.count i.pending) (bits n c.args.value))
    ∙ ap (λ (w : List Bool). w ++ bits n c.args.value) c.self.view_is

pub returns-clause-len : goal.returns-clause-len
returns-clause-len c =
    ap length (returns-clause-ok c)
    ∙ length-append c.args.self.now (bits c.args.n c.args.value)
    ∙ ap (λ (k : ℕ). length c.args.self.now + k) (length-bits c.args.n c.args.value)

use Rattle.std.proofs.Common.{drop, refl, sym, arith}
use Rattle.std.proofs.lemmas.List.{length-drop, drop-drop}
use Rattle.l2_bits.specs.Bits.{bits_of}
use Rattle.l2_bits.proofs.BitFields.{length-bits_of, field_read, field_short}
use Rattle.l2_bits.proofs.reader.BitReader.take.Goals as goal

pub returns-then-bits-n-clause-short : goal.returns-then-bits-n-clause-short
returns-then-bits-n-clause-short c =
    let i = c.self.inside in
    rw (← c.self.view_is) (
      field_short c.args.n _ (omega (arith, length-drop i.at (bits_of i.octets.now), length-bits_of i.octets.now)),
      refl,
      refl,
    )

pub returns-clause-ok : goal.returns-clause-ok
returns-clause-ok c =
    let i = c.self.inside in
    rw (← c.self.view_is) (field_read c.args.n (drop i.at (bits_of i.octets.now)) _ c.field-value.result
    (omega (arith, length-drop i.at (bits_of i.octets.now), length-bits_of i.octets.now)) c.field-value.ensures.number
    (sym (drop-drop c.args.n i.at (bits_of i.octets.now))))

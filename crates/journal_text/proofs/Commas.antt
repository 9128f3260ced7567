-- The lengths and the entries of a STATUS read back from their text, in which no space stands.
use Rattle.std.proofs.Common.{◌≡◌, ◌<◌, ◌^◌, ◌∙◌, ℕ, List, [], ◌∷◌, ◌++◌, map, All, Option, Some, None, Ok, true}
use Rattle.std.proofs.Common.{false, codes, refl, sym, ap, arith, ◌==◌, append_assoc, append-nil}
use Rattle.std.specs.Str.{bytes_eq}
use Rattle.std.specs.Fmt.{decimal}
use Rattle.std.proofs.lemmas.List.Elements.{All-head, All-tail}
use Rattle.rlc_pdu.specs.declared.pdu.Part.{Part}
use Rattle.rlc_pdu.specs.declared.pdu.Nack.{Nack}
use Rattle.air_record.specs.Text.{commas, comma_before, lens_text, part_text, nack_text, nacks_text}
use Rattle.journal_text.specs.Pieces.{pieces}
use Rattle.journal_text.specs.Lists.{numbers_of, lens_of, part_of, nack_of, entries_of, nacks_of}
use Rattle.journal_text.specs.Records.{AreLens, IsPart, IsNack}
use Rattle.journal_text.proofs.Cuts.{is_free, are_free, free-both, free-append, before-alone, before-rest}
use Rattle.journal_text.proofs.Cuts.{pieces-joined}
use Rattle.journal_text.proofs.Cuts.{commas-joined}
use Rattle.text_digits.specs.Numerals.{is_digit}
use Rattle.journal_text.proofs.Numbers.{number-back, free-number, dash-number}

-- commas between texts in which a space stands nowhere
free-before : (ws : List (List ℕ)) → are_free 32 ws ≡ true → is_free 32 (comma_before ws) ≡ true
free-before [] h = refl
free-before (w ∷ ws) h = let p = free-both 32 w ws h in free-append 32 w (comma_before ws) p.0 (free-before ws p.1)

free-commas : (ws : List (List ℕ)) → are_free 32 ws ≡ true → is_free 32 (commas ws) ≡ true
free-commas [] h = refl
free-commas (w ∷ ws) h = let p = free-both 32 w ws h in free-append 32 w (comma_before ws) p.0 (free-before ws p.1)

free-numbers : (at : ℕ) → is_digit at ≡ false → (ns : List ℕ) → All (λ n. n < 2 ^ 32) ns
    → are_free at (map decimal ns) ≡ true
free-numbers at out [] h = refl
free-numbers at out (n ∷ ns) h =
    let small = All-head (λ m. m < 2 ^ 32) n ns h in
    rw (free-number at n out (omega (arith, small))) (free-numbers at out ns (All-tail (λ m. m < 2 ^ 32) n ns h))

pub lens-free : (lens : List ℕ) → AreLens lens → is_free 32 (lens_text lens) ≡ true
lens-free lens h = free-commas (map decimal lens) (free-numbers 32 refl lens h.1)

numbers-back : (read ns : List ℕ) → All (λ n. n < 2 ^ 32) ns → numbers_of read (map decimal ns) ≡ Ok (read ++ ns)
unfolding numbers_of
numbers-back read [] h = ap Ok (sym (append-nil read))
numbers-back read (n ∷ ns) h =
    rw (number-back n (All-head (λ m. m < 2 ^ 32) n ns h))
    (numbers-back (read ++ n ∷ []) ns (All-tail (λ m. m < 2 ^ 32) n ns h)
    ∙ ap Ok (append_assoc read (n ∷ []) ns))

pub lens-back : (lens : List ℕ) → AreLens lens → lens_of (lens_text lens) ≡ Ok lens
unfolding lens_of
lens-back [] h = absurd (omega (arith, h.0))
lens-back (n ∷ ns) h =
    ap (λ (t : List ℕ). numbers_of [] (pieces 44 t)) (commas-joined (map decimal (n ∷ ns)))
    ∙ ap (numbers_of []) (pieces-joined 44 (decimal n) (map decimal ns) refl (free-numbers 44 refl (n ∷ ns) h.1))
    ∙ numbers-back [] (n ∷ ns) h.1

-- ---- entries

part-back : (part : Part) → (part.start < 2 ^ 32) × (part.end < 2 ^ 32)
    → part_of (decimal part.start ++ (45 ∷ decimal part.end)) ≡ Ok part
unfolding part_of
part-back part h =
    let p = before-rest 45 (decimal part.start) (decimal part.end)
    (free-number 45 part.start refl (omega (arith, h.0))) refl in
    rw (p.0, p.1, number-back part.start h.0, number-back part.end h.1) refl

entry-back : (sn : ℕ) (part : Option Part) → sn < 2 ^ 32 → IsPart part
    → nack_of (part_text sn part) ≡ Ok (record { sn = sn; part = part })
unfolding nack_of
entry-back sn None h good =
    let p = before-alone 58 (decimal sn) (free-number 58 sn refl (omega (arith, h))) in
    rw (p.0, p.1, number-back sn h) refl
entry-back sn (Some part) h good =
    let p = before-rest 58 (decimal sn) (decimal part.start ++ (45 ∷ decimal part.end))
    (free-number 58 sn refl (omega (arith, h))) refl in
    rw (p.0, p.1, number-back sn h, part-back part good) refl

entry-free : (at sn : ℕ) (part : Option Part) → is_digit at ≡ false → (45 == at) ≡ false → (58 == at) ≡ false
    → sn < 2 ^ 32 → IsPart part → is_free at (part_text sn part) ≡ true
entry-free at sn None out hyphen colon h good = free-number at sn out (omega (arith, h))
entry-free at sn (Some part) out hyphen colon h good =
    let end : is_free at (45 ∷ decimal part.end) ≡ true =
    rw hyphen (free-number at part.end out (omega (arith, good.1))) in
    let range = free-append at (decimal part.start) (45 ∷ decimal part.end)
    (free-number at part.start out (omega (arith, good.0))) end in
    let behind-colon : is_free at (58 ∷ (decimal part.start ++ (45 ∷ decimal part.end))) ≡ true = rw colon range in
    free-append at (decimal sn) (58 ∷ (decimal part.start ++ (45 ∷ decimal part.end)))
    (free-number at sn out (omega (arith, h))) behind-colon

free-entries : (at : ℕ) → is_digit at ≡ false → (45 == at) ≡ false → (58 == at) ≡ false → (ns : List Nack)
    → All IsNack ns → are_free at (map nack_text ns) ≡ true
free-entries at out hyphen colon [] h = refl
free-entries at out hyphen colon (n ∷ ns) h =
    let one = All-head IsNack n ns h in
    rw (entry-free at n.sn n.part out hyphen colon one.0 one.1)
    (free-entries at out hyphen colon ns (All-tail IsNack n ns h))

pub nacks-free : (nacks : List Nack) → All IsNack nacks → is_free 32 (nacks_text nacks) ≡ true
nacks-free [] h = refl
nacks-free (n ∷ ns) h = free-commas (map nack_text (n ∷ ns)) (free-entries 32 refl refl refl (n ∷ ns) h)

entries-back : (read ns : List Nack) → All IsNack ns → entries_of read (map nack_text ns) ≡ Ok (read ++ ns)
unfolding entries_of
entries-back read [] h = ap Ok (sym (append-nil read))
entries-back read (n ∷ ns) h =
    let one = All-head IsNack n ns h in
    rw (entry-back n.sn n.part one.0 one.1)
    (entries-back (read ++ n ∷ []) ns (All-tail IsNack n ns h) ∙ ap Ok (append_assoc read (n ∷ []) ns))

entry-dash : (sn : ℕ) (part : Option Part) (rest : List ℕ) → sn < 2 ^ 32
    → bytes_eq (part_text sn part ++ rest) (codes "-") ≡ false
entry-dash sn None rest h = dash-number sn rest (omega (arith, h))
entry-dash sn (Some part) rest h =
    ap (λ (t : List ℕ). bytes_eq t (codes "-"))
    (append_assoc (decimal sn) (58 ∷ (decimal part.start ++ (45 ∷ decimal part.end))) rest)
    ∙ dash-number sn _ (omega (arith, h))

pub nacks-back : (nacks : List Nack) → All IsNack nacks → nacks_of (nacks_text nacks) ≡ Ok nacks
unfolding nacks_of
nacks-back [] h = refl
nacks-back (n ∷ ns) h =
    rw (entry-dash n.sn n.part (comma_before (map nack_text ns)) (All-head IsNack n ns h).0)
    (ap (λ (t : List ℕ). entries_of [] (pieces 44 t)) (commas-joined (map nack_text (n ∷ ns)))
    ∙ ap (entries_of [])
    (pieces-joined 44 (nack_text n) (map nack_text ns) refl (free-entries 44 refl refl refl (n ∷ ns) h))
    ∙ entries-back [] (n ∷ ns) h)

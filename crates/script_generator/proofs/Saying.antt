-- The text of a script says its lines.
use Rattle.std.proofs.Common.{◌≡◌, ◌<◌, ◌+◌, ◌*◌, ◌/◌, ◌%◌, ◌==◌, ◌&&◌, ◌∙◌, nat_lt, Bool, true, false, if◌then◌else◌}
use Rattle.std.proofs.Common.{ℕ, zero, suc, List, [], ◌∷◌, ◌++◌, length, length-append, replicate, refl, ap, sym, arith}
use Rattle.std.proofs.Common.{append_assoc, slice_index, codes, Ok, Some}
use Rattle.std.specs.Prelude.{None}
use Rattle.std.specs.Int.{bytes_high_first}
use Rattle.std.proofs.lemmas.List.{length-replicate}
use Rattle.std.proofs.lemmas.Fmt.{decimal_digit}
use Rattle.hex.specs.Hex.{encode_lower, lower_digits, IsBytes}
use Rattle.hex.proofs.HexLemmas.{length-encode_with}
use Rattle.l2_types.specs.declared.side.Side.{Side}
use Rattle.l2_types.specs.declared.side.Side.TheVariants.{Ue, Nb}
use Rattle.air_record.specs.Text.{side_text}
use Rattle.air_record.specs.declared.line.Outcome.{Outcome}
use Rattle.air_record.specs.declared.line.Line.TheVariants.{Submit, Tti, Drain, End}
use Rattle.air_record.specs.declared.line.Fate.TheVariants as fates
use Rattle.air_text.specs.Words.{words_behind, words_of, is_twice, is_again, is_named}
use Rattle.air_text.specs.Fields.{outcome, is_number, number_of, kind_of, outcome_of}
use Rattle.air_text.specs.Options.{config_of, options_of, word_option, name_of}
use Rattle.air_text.specs.Reading.{read_words, harq_of, bearer_of, tti_of, drain_of, end_of}
use Rattle.air_text.specs.Spoken.{IsGoodKey}
use Rattle.air_text.proofs.LinesBack.{back-line}
use Rattle.script_generator.specs.Draws.{seeded, next, drawn}
use Rattle.script_generator.specs.Script.{key, keys, opening, handover, sdu_front, sdu, tti, at_tti, step, after_step}
use Rattle.script_generator.specs.Script.{steps, ending, script}
use Rattle.script_generator.specs.Lines.{key_at, harq_line, keys_line, with_retx, am_line, um_line, handover_by}
use Rattle.script_generator.specs.Lines.{handover_lines, sdu_octets, sdu_lines, tti_line, step_lines, steps_lines}
use Rattle.script_generator.specs.Lines.{ending_lines, lines, Says, SayAll}
use Rattle.script_generator.proofs.Texts.{has_no, no-both, no-hex, word-more, word-last, says-by, say-one, say-both}

high-bytes : (k n i : ℕ) → slice_index (bytes_high_first k n) i < 256
high-bytes zero n i = omega arith
high-bytes (suc zero) n zero = omega arith
high-bytes (suc (suc k)) n zero = omega arith
high-bytes (suc k) n (suc i) = high-bytes k n i

good-key : (n : ℕ) → IsGoodKey (key_at n)
good-key n = (λ i. high-bytes 16 n i, refl)

hex-some : (xs : List ℕ) → 0 < length xs → 0 < length (encode_lower xs)
hex-some xs some = omega (arith, some, length-encode_with lower_digits xs)

key-some : (n : ℕ) → 0 < length (key n)
key-some n = hex-some (key_at n).octets (omega arith)

key-length : (n : ℕ) → length (key n) ≡ 32
key-length n = length-encode_with lower_digits (key_at n).octets

-- three words with spaces between
three-text : (a b c : List ℕ) → a ++ codes " " ++ b ++ codes " " ++ c ≡ a ++ 32 ∷ (b ++ 32 ∷ c)
three-text a b c = append_assoc (a ++ codes " " ++ b) (codes " ") c ∙ append_assoc (a ++ codes " ") b (32 ∷ c)
    ∙ append_assoc a (codes " ") (b ++ 32 ∷ c)

keys-words : (before : ℕ) → words_behind [] (keys before) ≡ key (before + 1) ∷ key (before + 2) ∷ key (before + 3) ∷ []
keys-words before =
    let a = key (before + 1) in
    let b = key (before + 2) in
    let c = key (before + 3) in
    ap (λ (t : List ℕ). words_behind [] t) (three-text a b c)
    ∙ word-more a (b ++ 32 ∷ c) (no-hex 32 (key_at (before + 1)).octets refl refl) (key-some (before + 1))
    ∙ ap (λ (ws : List (List ℕ)). a ∷ ws)
    (word-more b c (no-hex 32 (key_at (before + 2)).octets refl refl) (key-some (before + 2))
    ∙ ap (λ (ws : List (List ℕ)). b ∷ ws)
    (word-last c (no-hex 32 (key_at (before + 3)).octets refl refl) (key-some (before + 3))))

keys-no : (o before : ℕ) → (0 == o) ≡ false → has_no o lower_digits ≡ true → has_no o (codes " ") ≡ true
    → has_no o (keys before) ≡ true
keys-no o before some digits space =
    let a = key (before + 1) in
    let b = key (before + 2) in
    let c = key (before + 3) in
    no-both o (a ++ codes " " ++ b ++ codes " ") c
    (no-both o (a ++ codes " " ++ b) (codes " ") (no-both o (a ++ codes " ") b
    (no-both o a (codes " ") (no-hex o (key_at (before + 1)).octets some digits) space)
    (no-hex o (key_at (before + 2)).octets some digits)) space)
    (no-hex o (key_at (before + 3)).octets some digits)

keys-length : (before : ℕ) → length (keys before) ≡ 98
keys-length before =
    let a = key (before + 1) in
    let b = key (before + 2) in
    let c = key (before + 3) in
    let whole = length-append (a ++ codes " " ++ b ++ codes " ") c in
    let more = length-append (a ++ codes " " ++ b) (codes " ") in
    let two = length-append (a ++ codes " ") b in
    let one = length-append a (codes " ") in
    omega (arith, whole, more, two, one, key-length (before + 1), key-length (before + 2), key-length (before + 3))

says-handover : (before : ℕ) → Says (codes "handover " ++ keys before) (handover_by before)
says-handover before =
    says-by (codes "handover " ++ keys before) (handover_by before)
    (no-both 10 (codes "handover ") (keys before) refl (keys-no 10 before refl refl refl))
    (no-both 13 (codes "handover ") (keys before) refl (keys-no 13 before refl refl refl))
    (omega (arith, length-append (codes "handover ") (keys before), keys-length before))
    (ap (λ (ws : List (List ℕ)). read_words (codes "handover" ∷ ws)) (keys-words before)
    ∙ back-line (handover_by before) (good-key (before + 1), good-key (before + 2), good-key (before + 3)))

says-keys : Says (codes "keys 2 " ++ keys 0) keys_line
says-keys =
    says-by (codes "keys 2 " ++ keys 0) keys_line
    (no-both 10 (codes "keys 2 ") (keys 0) refl (keys-no 10 0 refl refl refl))
    (no-both 13 (codes "keys 2 ") (keys 0) refl (keys-no 13 0 refl refl refl))
    (omega (arith, length-append (codes "keys 2 ") (keys 0), keys-length 0))
    (ap (λ (ws : List (List ℕ)). read_words (codes "keys" ∷ codes "2" ∷ ws)) (keys-words 0)
    ∙ back-line keys_line (good-key 1, good-key 2, good-key 3))

says-harq : Says (codes "harq 4") harq_line
unfolding read_words harq_of number_of is_number
says-harq = says-by (codes "harq 4") harq_line refl refl (omega arith) refl

says-am : Says (codes "bearer 3 am maxretx=32") am_line
unfolding read_words bearer_of number_of is_number kind_of config_of with_retx options_of word_option name_of is_twice
    is_again is_named
says-am = says-by (codes "bearer 3 am maxretx=32") am_line refl refl (omega arith) refl

says-um : Says (codes "bearer 4 um") um_line
unfolding read_words bearer_of number_of is_number kind_of config_of options_of is_twice
says-um = says-by (codes "bearer 4 um") um_line refl refl (omega arith) refl

say-opening : SayAll opening (harq_line ∷ keys_line ∷ am_line ∷ um_line ∷ [])
say-opening =
    let am : List ℕ = codes "bearer 3 am maxretx=32\nbearer 4 um\n" in (
      codes "harq 4",
      codes "keys 2 " ++ keys 0 ++ 10 ∷ am,
      refl,
      says-harq,
      (
        codes "keys 2 " ++ keys 0,
        am,
        refl,
        says-keys,
        (
          codes "bearer 3 am maxretx=32",
          codes "bearer 4 um\n",
          refl,
          says-am,
          (codes "bearer 4 um", [], refl, says-um, refl),
        ),
      ),
    )

handover-by : (b : Bool) (i : ℕ)
    → SayAll (if b then codes "handover " ++ keys (3 * i / 500) ++ codes "\n" else [])
    (if b then handover_by (3 * i / 500) ∷ [] else [])
handover-by true i = say-one _ _ _ refl (says-handover (3 * i / 500))
handover-by false i = refl

say-handover : (i : ℕ) → SayAll (handover i) (handover_lines i)
say-handover i = handover-by (nat_lt 0 i && i % 500 == 0) i

sdu-bytes : (i x : ℕ) → IsBytes (sdu_octets i x)
sdu-bytes i x = replicated (1 + drawn 1400 (next x)) (i % 256) (omega arith)
  where
    replicated : (n o : ℕ) → o < 256 → IsBytes (replicate n o)
    replicated zero o h k = omega arith
    replicated (suc n) o h zero = h
    replicated (suc n) o h (suc k) = replicated n o h k

sdu-length : (i x : ℕ) → length (sdu_octets i x) ≡ 1 + drawn 1400 (next x)
sdu-length i x = length-replicate (1 + drawn 1400 (next x)) (i % 256)

says-sdu : (front : List ℕ) (side : Side) (lcid i x : ℕ) → has_no 10 front ≡ true → has_no 13 front ≡ true
    → length front ≡ 12
    → read_words (words_of (front ++ encode_lower (sdu_octets i x))) ≡ Ok (Some (Submit side lcid (sdu_octets i x)))
    → Says (front ++ encode_lower (sdu_octets i x)) (Submit side lcid (sdu_octets i x))
says-sdu front side lcid i x feed return long read =
    let octets = sdu_octets i x in
    says-by (front ++ encode_lower octets) (Submit side lcid octets)
    (no-both 10 front (encode_lower octets) feed (no-hex 10 octets refl refl))
    (no-both 13 front (encode_lower octets) return (no-hex 13 octets refl refl))
    (omega (
      arith,
      length-append front (encode_lower octets),
      length-encode_with lower_digits octets,
      sdu-length i x,
      long,
    )) read

sdu-word : (i x : ℕ) → words_of (encode_lower (sdu_octets i x)) ≡ encode_lower (sdu_octets i x) ∷ []
sdu-word i x =
    word-last (encode_lower (sdu_octets i x)) (no-hex 32 (sdu_octets i x) refl refl)
    (hex-some (sdu_octets i x) (omega (arith, sdu-length i x)))

read-sdu : (side : Side) (lcid i x : ℕ) → lcid < 10
    → read_words (codes "submit" ∷ side_text side ∷ ((48 + lcid) ∷ []) ∷ encode_lower (sdu_octets i x) ∷ [])
    ≡ Ok (Some (Submit side lcid (sdu_octets i x)))
read-sdu side lcid i x few =
    ap (λ (w : List ℕ). read_words (codes "submit" ∷ side_text side ∷ w ∷ encode_lower (sdu_octets i x) ∷ []))
    (sym (decimal_digit lcid few))
    ∙ back-line (Submit side lcid (sdu_octets i x)) (
      omega (arith, few),
      sdu-bytes i x,
      omega (arith, sdu-length i x),
      omega (arith, sdu-length i x),
    )

sdu-by : (a b c : Bool) (i x : ℕ)
    → SayAll
    (sdu (if a then Some (codes "submit nb 3 ") else if b then Some (codes "submit ue 3 ") else if c
    then Some (codes "submit nb 4 ") else None) i x)
    (if a then Submit Nb 3 (sdu_octets i x) ∷ [] else if b then Submit Ue 3 (sdu_octets i x) ∷ [] else if c
    then Submit Nb 4 (sdu_octets i x) ∷ [] else [])
sdu-by true b c i x =
    say-one _ _ _ refl (says-sdu (codes "submit nb 3 ") Nb 3 i x refl refl refl
    (ap (λ (ws : List (List ℕ)). read_words (codes "submit" ∷ codes "nb" ∷ codes "3" ∷ ws)) (sdu-word i x)
    ∙ read-sdu Nb 3 i x (omega arith)))
sdu-by false true c i x =
    say-one _ _ _ refl (says-sdu (codes "submit ue 3 ") Ue 3 i x refl refl refl
    (ap (λ (ws : List (List ℕ)). read_words (codes "submit" ∷ codes "ue" ∷ codes "3" ∷ ws)) (sdu-word i x)
    ∙ read-sdu Ue 3 i x (omega arith)))
sdu-by false false true i x =
    say-one _ _ _ refl (says-sdu (codes "submit nb 4 ") Nb 4 i x refl refl refl
    (ap (λ (ws : List (List ℕ)). read_words (codes "submit" ∷ codes "nb" ∷ codes "4" ∷ ws)) (sdu-word i x)
    ∙ read-sdu Nb 4 i x (omega arith)))
sdu-by false false false i x = refl

say-sdu : (kind i x : ℕ) → SayAll (sdu (sdu_front kind) i x) (sdu_lines kind i x)
say-sdu kind i x = sdu-by (nat_lt kind 2) (kind == 2) (kind == 3) i x

-- an outcome's text, and the outcome
abbrev said : Bool → Bool → List ℕ
said a b = if a then codes "bad" else if b then codes "ok~" else codes "ok"

abbrev meant : Bool → Bool → Outcome
meant a b = if a then outcome fates.Bad false else if b then outcome fates.Ok true else outcome fates.Ok false

abbrev tti_text : Bool → Bool → Bool → Bool → List ℕ
tti_text a b c d = codes "tti 1500 " ++ said a b ++ codes " 1500 " ++ said c d

says-tti : (a b c d : Bool) → Says (tti_text a b c d) (Tti 1500 (meant a b) 1500 (meant c d))
unfolding read_words tti_of number_of is_number outcome_of
says-tti true b true d = says-by _ _ refl refl (omega arith) refl
says-tti true b false true = says-by _ _ refl refl (omega arith) refl
says-tti true b false false = says-by _ _ refl refl (omega arith) refl
says-tti false true true d = says-by _ _ refl refl (omega arith) refl
says-tti false true false true = says-by _ _ refl refl (omega arith) refl
says-tti false true false false = says-by _ _ refl refl (omega arith) refl
says-tti false false true d = says-by _ _ refl refl (omega arith) refl
says-tti false false false true = says-by _ _ refl refl (omega arith) refl
says-tti false false false false = says-by _ _ refl refl (omega arith) refl

say-tti : (x : ℕ) → SayAll (tti x) (tti_line x ∷ [])
say-tti x =
    let up = drawn 10 (next x) in
    let down = drawn 10 (next (next x)) in
    say-one (tti x) (tti_text (up == 0) (up == 1) (down == 0) (down == 1)) (tti_line x) refl
    (says-tti (up == 0) (up == 1) (down == 0) (down == 1))

say-step : (i x : ℕ) → SayAll (step i x) (step_lines i x)
unfolding step
say-step i x =
    say-both (handover i ++ sdu (sdu_front (drawn 8 (next x))) i (next x)) (tti (at_tti x))
    (handover_lines i ++ sdu_lines (drawn 8 (next x)) i (next x)) (tti_line (at_tti x) ∷ [])
    (say-both (handover i) (sdu (sdu_front (drawn 8 (next x))) i (next x)) (handover_lines i)
    (sdu_lines (drawn 8 (next x)) i (next x)) (say-handover i) (say-sdu (drawn 8 (next x)) i (next x)))
    (say-tti (at_tti x))

say-steps : (n i x : ℕ) → SayAll (steps n i x) (steps_lines n i x)
unfolding steps steps_lines
say-steps zero i x = refl
say-steps (suc n) i x =
    say-both (step i x) (steps n (i + 1) (after_step x)) (step_lines i x) (steps_lines n (i + 1) (after_step x))
    (say-step i x) (say-steps n (i + 1) (after_step x))

say-ending : SayAll ending ending_lines
unfolding read_words drain_of end_of number_of is_number
say-ending = (
  codes "drain 1500",
  codes "end\n",
  refl,
  says-by (codes "drain 1500") (Drain 1500) refl refl (omega arith) refl,
  (codes "end", [], refl, says-by (codes "end") End refl refl (omega arith) refl, refl),
)

pub say-script : (number : ℕ) → SayAll (script number) (lines number)
unfolding script lines
say-script number =
    rw (append_assoc opening (steps 2000 0 (seeded number)) ending)
    (say-both opening (steps 2000 0 (seeded number) ++ ending) (harq_line ∷ keys_line ∷ am_line ∷ um_line ∷ [])
    (steps_lines 2000 0 (seeded number) ++ ending_lines) say-opening
    (say-both (steps 2000 0 (seeded number)) ending (steps_lines 2000 0 (seeded number)) ending_lines
    (say-steps 2000 0 (seeded number)) say-ending))

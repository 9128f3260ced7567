-- A line read back from the words of its text.
use Rattle.std.proofs.Common.{◌≡◌, ◌<◌, ◌≤◌, ◌^◌, ◌==◌, ◌∙◌, ◌+◌, ℕ, List, [], ◌∷◌, inl, inr, ap, refl, sym, rules}
use Rattle.std.proofs.Common.{arith, true, false, Bool, if◌then◌else◌, length, codes, get_or, nat_lt, Ok, Some}
use Rattle.std.specs.Fmt.{decimal}
use Rattle.std.specs.List.{list_all}
use Rattle.std.proofs.lemmas.Fmt.{digits_value-decimal, digits_decimal, decimal_nonempty, first_decimal, decimal_digit}
use Rattle.std.proofs.lemmas.Str.Parse.{IsNumeralModel, numerals_by_fold}
use Rattle.std.proofs.lemmas.Bool.{cases_lt}
use Rattle.hex.specs.Hex.{encode_lower, lower_digits, IsBytes}
use Rattle.hex.proofs.HexLemmas.{decode_of-encode_lower, length-encode_with}
use Rattle.l2_types.specs.declared.side.Side.{Side}
use Rattle.l2_types.specs.declared.side.Side.TheVariants.{Ue, Nb}
use Rattle.l2_types.specs.declared.event.Clock.{Clock}
use Rattle.l2_types.specs.declared.event.Clock.TheVariants as clocks
use Rattle.air_record.specs.declared.line.Fate.{Fate}
use Rattle.air_record.specs.declared.line.Fate.TheVariants as fates
use Rattle.air_record.specs.declared.line.Line.{Line}
use Rattle.air_record.specs.declared.line.Line.TheVariants as lines
use Rattle.l2_types.specs.declared.channel.Kind.{Kind}
use Rattle.l2_types.specs.declared.channel.Kind.TheVariants as kinds
use Rattle.eps_sec.specs.declared.keys.Cipher.{Cipher}
use Rattle.eps_sec.specs.declared.keys.Cipher.TheVariants as ciphers
use Rattle.eps_sec.specs.declared.keys.Key.{Key}
use Rattle.bearer_types.specs.declared.config.BearerConfig.{BearerConfig}
use Rattle.text_digits.specs.Numerals.{is_digit, value_behind}
use Rattle.air_text.specs.Fields.{cipher_of, kind_of, is_number, number_of, octets_of, side_of, clock_of, outcome_of}
use Rattle.air_text.specs.Fields.{word_of}
use Rattle.air_text.specs.Reading.{key_of, keys_of, handover_of, bearer_of, read_words, harq_of, bsr_of, submit_of}
use Rattle.air_text.specs.Reading.{tti_of, expire_of, loop_of, loop_off_of, loop_a_of, loop_b_of, drain_of, forge_of}
use Rattle.air_text.specs.Reading.{end_of, discard_of, drx_of}
use Rattle.air_text.specs.Spoken.{IsGoodBearer, IsGoodLine, spoken}
use Rattle.air_record.specs.Text.{cipher_text, kind_text, side_text, clock_text, fate_text}

own-line : IsNumeralModel (λ ds. list_all is_digit ds ≡ true) (value_behind 0)
own-line = numerals_by_fold _ (search rules) value_behind (search (rules, arith))

value-decimal : (n : ℕ) → n < 2 ^ 64 → value_behind 0 (decimal n) ≡ n
value-decimal n h = digits_value-decimal own-line n h

numeral : (n : ℕ) → n < 2 ^ 64 → is_number (decimal n) ≡ true
unfolding is_number
numeral n h =
    let all : list_all is_digit (decimal n) ≡ true = digits_decimal own-line n h in
    let some : (length (decimal n) == 0) ≡ false = grind (arith, decimal_nonempty n h) in
    elim (cases_lt n 10) [
      | inl small ↦
          let one : list_all is_digit ((48 + n) ∷ []) ≡ true =
          sym (ap (list_all is_digit) (decimal_digit n small)) ∙ all in
          rw (decimal_digit n small) one
      | inr large ↦
          let first : (get_or (decimal n) 0 0 == 48) ≡ false = grind (arith, first_decimal n (omega arith) h) in
          elim (nat_lt 1 (length (decimal n))) as
          (λ b. (if length (decimal n) == 0 then false else if b
          then (if get_or (decimal n) 0 0 == 48 then false else list_all is_digit (decimal n))
          else list_all is_digit (decimal n)) ≡ true) [
            | true ↦ rw (some, first) all
            | false ↦ rw some all
          ]
    ]

pub number-of-decimal : (least most n : ℕ) → most < 2 ^ 64 → least ≤ n → n ≤ most
    → number_of least most (decimal n) ≡ Ok n
unfolding number_of
number-of-decimal least most n h low high =
    let over : nat_lt most n ≡ false = grind arith in
    let under : nat_lt n least ≡ false = grind arith in
    rw (numeral n (omega arith), value-decimal n (omega arith), over, under) refl

pub octets-of-hex : (most : ℕ) (xs : List ℕ) → IsBytes xs → 0 < length xs → length xs ≤ most
    → octets_of most (encode_lower xs) ≡ Ok xs
unfolding octets_of
octets-of-hex most xs h some few =
    let text : (length (encode_lower xs) == 0) ≡ false = grind (arith, length-encode_with lower_digits xs) in
    let over : nat_lt most (length xs) ≡ false = grind arith in
    rw (text, decode_of-encode_lower xs h, over) refl

side-back : (c : Side) → side_of (side_text c) ≡ Ok c
unfolding side_of
side-back Ue = refl
side-back Nb = refl

clock-back : (c : Clock) → clock_of (clock_text c) ≡ Ok c
unfolding clock_of
clock-back clocks.Poll = refl
clock-back clocks.Reorder = refl
clock-back clocks.Prohibit = refl

fate-back : (fate : Fate) (flipped : Bool)
    → outcome_of (fate_text fate flipped) ≡ Ok (record { fate = fate; flipped = flipped })
unfolding outcome_of
fate-back fates.Ok false = refl
fate-back fates.Ok true = refl
fate-back fates.Bad false = refl
fate-back fates.Bad true = refl
fate-back fates.Miss false = refl
fate-back fates.Miss true = refl

upto : (most n : ℕ) → most < 2 ^ 64 → n ≤ most → number_of 0 most (decimal n) ≡ Ok n
upto most n h high = number-of-decimal 0 most n h (omega arith) high

key-of-hex : (key : Key) → IsBytes key.octets → length key.octets ≡ 16 → key_of (encode_lower key.octets) ≡ Ok key
unfolding key_of
key-of-hex key h long =
    let text : (length (encode_lower key.octets) == 0) ≡ false =
    grind (arith, length-encode_with lower_digits key.octets, long) in
    let whole : (length key.octets == 16) ≡ true = grind (arith, long) in
    rw (text, decode_of-encode_lower key.octets h, whole) refl

cipher-back : (c : Cipher) → cipher_of (cipher_text c) ≡ Ok c
unfolding cipher_of number_of is_number
cipher-back ciphers.Eea0 = refl
cipher-back ciphers.Eea2 = refl

kind-back : (k : Kind) → kind_of (kind_text k) ≡ Ok k
unfolding kind_of
kind-back kinds.Tm = refl
kind-back kinds.Srb = refl
kind-back kinds.Um = refl
kind-back kinds.Am = refl

-- a bearer's line, with its options as words
back-bearer : (config : BearerConfig) (options : List ℕ) → (h : IsGoodBearer config options)
    → read_words (codes "bearer" ∷ decimal config.channel.lcid ∷ kind_text config.kind ∷ h.words)
    ≡ Ok (Some (lines.Bearer config options))
unfolding read_words bearer_of
back-bearer config options h =
    rw (
      h.once,
      upto 10 config.channel.lcid (omega arith) h.lcid,
      kind-back config.kind,
      h.fits,
      h.read,
      ← h.joined_is,
    ) refl

-- the words of a line that are read: those of its text, but for a bearer's options
pub back-line : (line : Line) → (h : IsGoodLine line) → read_words (spoken line h) ≡ Ok (Some line)
unfolding read_words harq_of bsr_of keys_of submit_of tti_of expire_of handover_of loop_of loop_off_of loop_a_of
    loop_b_of drain_of forge_of end_of discard_of drx_of word_of
back-line (lines.Harq visits) h = rw (number-of-decimal 1 28 visits (omega arith) h.0 h.1) refl
back-line lines.Bsr h = refl
back-line (lines.Submit side lcid octets) h =
    rw (side-back side, upto 10 lcid (omega arith) h.0, octets-of-hex 8188 octets h.1 h.2 h.3) refl
back-line (lines.Tti up_grant up down_grant down) h =
    rw (
      upto 9422 up_grant (omega arith) h.0,
      fate-back up.fate up.flipped,
      upto 9422 down_grant (omega arith) h.1,
      fate-back down.fate down.flipped,
    ) refl
back-line (lines.Expire side lcid clock) h = rw (side-back side, upto 10 lcid (omega arith) h, clock-back clock) refl
back-line lines.LoopOff h = refl
back-line (lines.LoopA size) h = rw (upto 8188 size (omega arith) h) refl
back-line (lines.LoopB delay) h = rw (upto 65535 delay (omega arith) h) refl
back-line (lines.Drain grant) h = rw (upto 9422 grant (omega arith) h) refl
back-line (lines.Forge side octets) h = rw (side-back side, octets-of-hex 9422 octets h.0 h.1 h.2) refl
back-line lines.End h = refl
back-line (lines.Discard lcid ttis) h =
    rw (upto 10 lcid (omega arith) h.0, number-of-decimal 2 65535 ttis (omega arith) h.1 h.2) refl
back-line (lines.Keys keys) h =
    rw (
      cipher-back keys.alg,
      key-of-hex keys.user h.0.0 h.0.1,
      key-of-hex keys.rrc h.1.0 h.1.1,
      key-of-hex keys.integrity h.2.0 h.2.1,
    ) refl
back-line (lines.Bearer config options) h = back-bearer config options h
back-line (lines.Handover user rrc integrity) h =
    rw (key-of-hex user h.0.0 h.0.1, key-of-hex rrc h.1.0 h.1.1, key-of-hex integrity h.2.0 h.2.1) refl
back-line (lines.Drx config) h =
    rw (
      number-of-decimal 1 200 config.on (omega arith) h.on.0 h.on.1,
      upto 2560 config.inactivity (omega arith) h.inactivity,
      upto 33 config.retransmit (omega arith) h.retransmit,
      number-of-decimal 1 2560 config.cycle (omega arith) h.cycle.0 h.cycle.1,
      upto 2559 config.offset (omega arith) h.offset,
    ) refl

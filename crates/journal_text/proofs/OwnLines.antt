-- A line that a text says is printed as a text that says it again.
use Rattle.std.proofs.Common.{◌≡◌, ◌==◌, ◌∙◌, ◌⊎◌, inl, inr, ℕ, Bool, true, false, if◌then◌else◌, nat_lt, List}
use Rattle.std.proofs.Common.{[], ◌∷◌, ◌++◌, length, refl, sym, ap, subst, arith, codes, slice_index, Option, None}
use Rattle.std.proofs.Common.{Some}
use Rattle.std.proofs.Common.{Result, Ok, Err, append_assoc}
use Rattle.std.proofs.lemmas.Bool.Decides.{nat_tests}
use Rattle.std.specs.Fmt.{decimal}
use Rattle.std.specs.Str.{bytes_eq}
use Rattle.hex.specs.Hex.{encode_lower}
use Rattle.bearer_types.specs.declared.config.BearerConfig.{BearerConfig}
use Rattle.l2_types.specs.declared.channel.Kind.{Kind}
use Rattle.l2_types.specs.declared.side.Side.{Side}
use Rattle.l2_types.specs.declared.event.Clock.{Clock}
use Rattle.l2_types.specs.declared.config.DrxConfig.{DrxConfig}
use Rattle.air_record.specs.declared.line.Outcome.{Outcome}
use Rattle.eps_sec.specs.declared.keys.Cipher.{Cipher}
use Rattle.eps_sec.specs.declared.keys.Key.{Key}
use Rattle.air_record.specs.declared.line.Line.{Line}
use Rattle.air_record.specs.declared.line.Line.TheVariants as lines
use Rattle.air_record.specs.Text.{worded, line_words, bearer_words, kind_text}
use Rattle.air_text.specs.declared.fault.LineRefusal.{LineRefusal}
use Rattle.air_text.specs.declared.fault.LineRefusal.TheVariants.{Word, Range, Fields, Long}
use Rattle.air_text.specs.declared.options.Name.{Name}
use Rattle.air_text.specs.declared.options.Name.TheVariants as names
use Rattle.air_text.specs.Words.{◌>>=◌, words_of, joined, spaced, is_twice, before_equals, behind_equals}
use Rattle.air_text.specs.Fields.{number_of, octets_of, side_of, clock_of, kind_of, outcome_of}
use Rattle.air_text.specs.Fields.{cipher_of, word_of}
use Rattle.air_text.specs.Options.{goes, config_of, option_of, named_option, cut_option, word_option, options_of}
use Rattle.air_text.specs.Options.{name_of, has}
use Rattle.air_text.specs.Reading.{key_of, keys_of, handover_of, bearer_of, read_of, read_words, harq_of, bsr_of}
use Rattle.air_text.specs.Reading.{submit_of, tti_of, expire_of, loop_of, loop_off_of, loop_a_of, loop_b_of, drain_of}
use Rattle.air_text.specs.Reading.{forge_of, end_of, discard_of, drx_of, line_of}
use Rattle.journal_text.specs.Records.{IsOwnLine}
use Rattle.journal_text.proofs.Numbers.{same_word}
use Rattle.journal_text.proofs.OwnFields.{through, number_again, word_again, side_again, clock_again, kind_again}
use Rattle.journal_text.proofs.OwnFields.{outcome_again, cipher_again, octets_again, key_again}
use Rattle.journal_text.proofs.OwnWords.{AreWords, are_words, words_short, words_again, joined_ended, itself, AreLike}
use Rattle.journal_text.proofs.OwnWords.{themselves, words_like, joined_like, spaced_ended}

-- a line that words say, printed as words that are like those and say it again
record SaysAgain (words : List (List ℕ)) (line : Line) : Type 0 where
  again : List (List ℕ)
  like : AreLike words again
  read : read_words again ≡ Ok (Some line)
  printed : worded (line_words line) ≡ worded again

-- the same words
same-words : (words : List (List ℕ)) (line : Line) → read_words words ≡ Ok (Some line) → line_words line ≡ words
    → SaysAgain words line
same-words words line read is =
    record { again = words; like = themselves words; read = read; printed = ap worded is }

abbrev as_ok : Line → Result Line LineRefusal
as_ok line = Ok line

-- the words of the line that is answered
as-said : (one line : Line) (words : List (List ℕ)) → as_ok one ≡ Ok line → line_words one ≡ words
    → line_words line ≡ words
as-said one line words h said = let same : one ≡ line = cc in ap line_words (sym same) ∙ said

says-line : (one line : Line) (words : List (List ℕ)) → as_ok one ≡ Ok line → SaysAgain words one
    → SaysAgain words line
says-line one line words h said = let same : one ≡ line = cc in subst (λ (l : Line). SaysAgain words l) same said

abbrev as_some : Result Line LineRefusal → Result (Option Line) LineRefusal
as_some read = read >>= λ line. Ok (Some line)

-- ---- the lines without octets

harq-words : (fields : List (List ℕ)) (line : Line) → harq_of fields ≡ Ok line → line_words line ≡ codes "harq" ∷ fields
unfolding harq_of
harq-words (visits ∷ []) line h =
    through (number_of 1 28 visits) _ line _ h (λ n number h.
    as-said (lines.Harq n) line _ h
    (ap (λ (w : List ℕ). codes "harq" ∷ w ∷ []) (number_again 1 28 n visits number (omega arith))))
harq-words fields line h = cc

bsr-words : (fields : List (List ℕ)) (line : Line) → bsr_of fields ≡ Ok line → line_words line ≡ codes "bsr" ∷ fields
unfolding bsr_of
bsr-words (on ∷ []) line h =
    through (word_of (codes "on") on) _ line _ h (λ u word h.
    as-said lines.Bsr line _ h (ap (λ (w : List ℕ). codes "bsr" ∷ w ∷ []) (word_again (codes "on") on u word)))
bsr-words fields line h = cc

tti-said : (up_grant up down_grant down : List ℕ) (g : ℕ) (o : Outcome) (h : ℕ) (p : Outcome)
    → number_of 0 9422 up_grant ≡ Ok g → outcome_of up ≡ Ok o → number_of 0 9422 down_grant ≡ Ok h
    → outcome_of down ≡ Ok p
    → line_words (lines.Tti g o h p) ≡ codes "tti" ∷ up_grant ∷ up ∷ down_grant ∷ down ∷ []
tti-said up_grant up down_grant down g o h p first second third fourth =
    rw (
      number_again 0 9422 g up_grant first (omega arith),
      outcome_again up o second,
      number_again 0 9422 h down_grant third (omega arith),
      outcome_again down p fourth,
    ) refl

tti-words : (fields : List (List ℕ)) (line : Line) → tti_of fields ≡ Ok line → line_words line ≡ codes "tti" ∷ fields
unfolding tti_of
tti-words (up_grant ∷ up ∷ down_grant ∷ down ∷ []) line h =
    through (number_of 0 9422 up_grant) _ line _ h (λ g first h.
    through (outcome_of up) _ line _ h (λ o second h.
    through (number_of 0 9422 down_grant) _ line _ h (λ i third h.
    through (outcome_of down) _ line _ h (λ p fourth h.
    as-said (lines.Tti g o i p) line _ h (tti-said up_grant up down_grant down g o i p first second third fourth)))))
tti-words fields line h = cc

expire-said : (node lcid clock : List ℕ) (s : Side) (n : ℕ) (c : Clock) → side_of node ≡ Ok s
    → number_of 0 10 lcid ≡ Ok n → clock_of clock ≡ Ok c
    → line_words (lines.Expire s n c) ≡ codes "expire" ∷ node ∷ lcid ∷ clock ∷ []
expire-said node lcid clock s n c first second third =
    rw (side_again node s first, number_again 0 10 n lcid second (omega arith), clock_again clock c third) refl

expire-words : (fields : List (List ℕ)) (line : Line) → expire_of fields ≡ Ok line
    → line_words line ≡ codes "expire" ∷ fields
unfolding expire_of
expire-words (node ∷ lcid ∷ clock ∷ []) line h =
    through (side_of node) _ line _ h (λ s first h.
    through (number_of 0 10 lcid) _ line _ h (λ n second h.
    through (clock_of clock) _ line _ h (λ c third h.
    as-said (lines.Expire s n c) line _ h (expire-said node lcid clock s n c first second third))))
expire-words fields line h = cc

loop-off-words : (fields : List (List ℕ)) (line : Line) → loop_off_of fields ≡ Ok line
    → line_words line ≡ codes "loop" ∷ codes "off" ∷ fields
unfolding loop_off_of
loop-off-words [] line h = as-said lines.LoopOff line _ h refl
loop-off-words fields line h = cc

loop-a-words : (fields : List (List ℕ)) (line : Line) → loop_a_of fields ≡ Ok line
    → line_words line ≡ codes "loop" ∷ codes "a" ∷ fields
unfolding loop_a_of
loop-a-words (size ∷ []) line h =
    through (number_of 0 8188 size) _ line _ h (λ n number h.
    as-said (lines.LoopA n) line _ h
    (ap (λ (w : List ℕ). codes "loop" ∷ codes "a" ∷ w ∷ []) (number_again 0 8188 n size number (omega arith))))
loop-a-words fields line h = cc

loop-b-words : (fields : List (List ℕ)) (line : Line) → loop_b_of fields ≡ Ok line
    → line_words line ≡ codes "loop" ∷ codes "b" ∷ fields
unfolding loop_b_of
loop-b-words (delay ∷ []) line h =
    through (number_of 0 65535 delay) _ line _ h (λ n number h.
    as-said (lines.LoopB n) line _ h
    (ap (λ (w : List ℕ). codes "loop" ∷ codes "b" ∷ w ∷ []) (number_again 0 65535 n delay number (omega arith))))
loop-b-words fields line h = cc

choose : {A : Type 0} (b : Bool) (x y r : A) → (if b then x else y) ≡ r
    → ((b ≡ true) × (x ≡ r)) ⊎ ((b ≡ false) × (y ≡ r))
choose true x y r h = inl (refl, h)
choose false x y r h = inr (refl, h)

loop-words : (fields : List (List ℕ)) (line : Line) → loop_of fields ≡ Ok line → line_words line ≡ codes "loop" ∷ fields
unfolding loop_of
loop-words [] line h = cc
loop-words (mode ∷ fields) line h =
    elim (choose (bytes_eq mode (codes "off")) (loop_off_of fields) _ (Ok line) h) [
      | inl p ↦
          loop-off-words fields line p.1
          ∙ ap (λ (w : List ℕ). codes "loop" ∷ w ∷ fields) (sym (same_word mode (codes "off") p.0))
      | inr p ↦
          elim (choose (bytes_eq mode (codes "a")) (loop_a_of fields) _ (Ok line) p.1) [
            | inl q ↦
                loop-a-words fields line q.1
                ∙ ap (λ (w : List ℕ). codes "loop" ∷ w ∷ fields) (sym (same_word mode (codes "a") q.0))
            | inr q ↦
                elim (choose (bytes_eq mode (codes "b")) (loop_b_of fields) (Err Word) (Ok line) q.1) [
                  | inl r ↦
                      loop-b-words fields line r.1
                      ∙ ap (λ (w : List ℕ). codes "loop" ∷ w ∷ fields) (sym (same_word mode (codes "b") r.0))
                  | inr r ↦ cc r.1
                ]
          ]
    ]

drain-words : (fields : List (List ℕ)) (line : Line) → drain_of fields ≡ Ok line
    → line_words line ≡ codes "drain" ∷ fields
unfolding drain_of
drain-words (grant ∷ []) line h =
    through (number_of 0 9422 grant) _ line _ h (λ n number h.
    as-said (lines.Drain n) line _ h
    (ap (λ (w : List ℕ). codes "drain" ∷ w ∷ []) (number_again 0 9422 n grant number (omega arith))))
drain-words fields line h = cc

end-words : (fields : List (List ℕ)) (line : Line) → end_of fields ≡ Ok line → line_words line ≡ codes "end" ∷ fields
unfolding end_of
end-words [] line h = as-said lines.End line _ h refl
end-words fields line h = cc

discard-said : (lcid ttis : List ℕ) (n t : ℕ) → number_of 0 10 lcid ≡ Ok n → number_of 2 65535 ttis ≡ Ok t
    → line_words (lines.Discard n t) ≡ codes "discard" ∷ lcid ∷ ttis ∷ []
discard-said lcid ttis n t first second =
    rw (number_again 0 10 n lcid first (omega arith), number_again 2 65535 t ttis second (omega arith)) refl

discard-words : (fields : List (List ℕ)) (line : Line) → discard_of fields ≡ Ok line
    → line_words line ≡ codes "discard" ∷ fields
unfolding discard_of
discard-words (lcid ∷ ttis ∷ []) line h =
    through (number_of 0 10 lcid) _ line _ h (λ n first h.
    through (number_of 2 65535 ttis) _ line _ h (λ t second h.
    as-said (lines.Discard n t) line _ h (discard-said lcid ttis n t first second)))
discard-words fields line h = cc

drx-said : (on inactivity retransmit cycle offset : List ℕ) (c : DrxConfig) → number_of 1 200 on ≡ Ok c.on
    → number_of 0 2560 inactivity ≡ Ok c.inactivity → number_of 0 33 retransmit ≡ Ok c.retransmit
    → number_of 1 2560 cycle ≡ Ok c.cycle → number_of 0 2559 offset ≡ Ok c.offset
    → line_words (lines.Drx c) ≡ codes "drx" ∷ on ∷ inactivity ∷ retransmit ∷ cycle ∷ offset ∷ []
drx-said on inactivity retransmit cycle offset c first second third fourth fifth =
    rw (
      number_again 1 200 c.on on first (omega arith),
      number_again 0 2560 c.inactivity inactivity second (omega arith),
      number_again 0 33 c.retransmit retransmit third (omega arith),
      number_again 1 2560 c.cycle cycle fourth (omega arith),
      number_again 0 2559 c.offset offset fifth (omega arith),
    ) refl

drx-words : (fields : List (List ℕ)) (line : Line) → drx_of fields ≡ Ok line → line_words line ≡ codes "drx" ∷ fields
unfolding drx_of
drx-words (on ∷ inactivity ∷ retransmit ∷ cycle ∷ offset ∷ []) line h =
    through (number_of 1 200 on) _ line _ h (λ a first h.
    through (number_of 0 2560 inactivity) _ line _ h (λ b second h.
    through (number_of 0 33 retransmit) _ line _ h (λ c third h.
    through (number_of 1 2560 cycle) _ line _ h (λ d fourth h.
    through (number_of 0 2559 offset) _ line _ h (λ e fifth h.
    let config : DrxConfig = record { on = a; inactivity = b; retransmit = c; cycle = d; offset = e } in
    as-said (lines.Drx config) line _ h
    (drx-said on inactivity retransmit cycle offset config first second third fourth fifth))))))
drx-words fields line h = cc

-- ---- the lines with octets

submit-said : (node lcid text : List ℕ) (s : Side) (n : ℕ) (o : List ℕ) → side_of node ≡ Ok s
    → number_of 0 10 lcid ≡ Ok n → octets_of 8188 text ≡ Ok o
    → SaysAgain (codes "submit" ∷ node ∷ lcid ∷ text ∷ []) (lines.Submit s n o)
unfolding submit_of read_words
submit-said node lcid text s n o side number octets =
    let again = octets_again 8188 text o octets in
    record {
      again = codes "submit" ∷ node ∷ lcid ∷ encode_lower o ∷ [];
      like = (itself (codes "submit"), (itself node, (itself lcid, (again.like, tt))));
      read = rw (side, number, again.read) refl;
      printed = rw (side_again node s side, number_again 0 10 n lcid number (omega arith)) refl;
    }

submit-again : (fields : List (List ℕ)) (line : Line) → submit_of fields ≡ Ok line
    → SaysAgain (codes "submit" ∷ fields) line
unfolding submit_of
submit-again (node ∷ lcid ∷ text ∷ []) line h =
    through (side_of node) _ line _ h (λ s first h.
    through (number_of 0 10 lcid) _ line _ h (λ n second h.
    through (octets_of 8188 text) _ line _ h (λ o third h.
    says-line (lines.Submit s n o) line _ h (submit-said node lcid text s n o first second third))))
submit-again fields line h = cc

forge-said : (node text : List ℕ) (s : Side) (o : List ℕ) → side_of node ≡ Ok s → octets_of 9422 text ≡ Ok o
    → SaysAgain (codes "forge" ∷ node ∷ text ∷ []) (lines.Forge s o)
unfolding forge_of read_words
forge-said node text s o side octets =
    let again = octets_again 9422 text o octets in
    record {
      again = codes "forge" ∷ node ∷ encode_lower o ∷ [];
      like = (itself (codes "forge"), (itself node, (again.like, tt)));
      read = rw (side, again.read) refl;
      printed = rw (side_again node s side) refl;
    }

forge-again : (fields : List (List ℕ)) (line : Line) → forge_of fields ≡ Ok line
    → SaysAgain (codes "forge" ∷ fields) line
unfolding forge_of
forge-again (node ∷ text ∷ []) line h =
    through (side_of node) _ line _ h (λ s first h.
    through (octets_of 9422 text) _ line _ h (λ o second h.
    says-line (lines.Forge s o) line _ h (forge-said node text s o first second)))
forge-again fields line h = cc

handover-said : (user rrc integrity : List ℕ) (u r i : Key) → key_of user ≡ Ok u → key_of rrc ≡ Ok r
    → key_of integrity ≡ Ok i
    → SaysAgain (codes "handover" ∷ user ∷ rrc ∷ integrity ∷ []) (lines.Handover u r i)
unfolding handover_of read_words
handover-said user rrc integrity u r i first second third =
    let a = key_again user u first in
    let b = key_again rrc r second in
    let c = key_again integrity i third in
    record {
      again = codes "handover" ∷ encode_lower u.octets ∷ encode_lower r.octets ∷ encode_lower i.octets ∷ [];
      like = (itself (codes "handover"), (a.like, (b.like, (c.like, tt))));
      read = rw (a.read, b.read, c.read) refl;
      printed = refl;
    }

handover-again : (fields : List (List ℕ)) (line : Line) → handover_of fields ≡ Ok line
    → SaysAgain (codes "handover" ∷ fields) line
unfolding handover_of
handover-again (user ∷ rrc ∷ integrity ∷ []) line h =
    through (key_of user) _ line _ h (λ u first h.
    through (key_of rrc) _ line _ h (λ r second h.
    through (key_of integrity) _ line _ h (λ i third h.
    says-line (lines.Handover u r i) line _ h (handover-said user rrc integrity u r i first second third))))
handover-again fields line h = cc

keys-said : (alg user rrc integrity : List ℕ) (c : Cipher) (u r i : Key) → cipher_of alg ≡ Ok c → key_of user ≡ Ok u
    → key_of rrc ≡ Ok r → key_of integrity ≡ Ok i
    → SaysAgain (codes "keys" ∷ alg ∷ user ∷ rrc ∷ integrity ∷ [])
    (lines.Keys (record { alg = c; user = u; rrc = r; integrity = i }))
unfolding keys_of read_words
keys-said alg user rrc integrity c u r i cipher first second third =
    let a = key_again user u first in
    let b = key_again rrc r second in
    let d = key_again integrity i third in
    record {
      again = codes "keys" ∷ alg ∷ encode_lower u.octets ∷ encode_lower r.octets ∷ encode_lower i.octets ∷ [];
      like = (itself (codes "keys"), (itself alg, (a.like, (b.like, (d.like, tt)))));
      read = rw (cipher, a.read, b.read, d.read) refl;
      printed = rw (cipher_again alg c cipher) refl;
    }

keys-again : (fields : List (List ℕ)) (line : Line) → keys_of fields ≡ Ok line → SaysAgain (codes "keys" ∷ fields) line
unfolding keys_of
keys-again (alg ∷ user ∷ rrc ∷ integrity ∷ []) line h =
    through (cipher_of alg) _ line _ h (λ c cipher h.
    through (key_of user) _ line _ h (λ u first h.
    through (key_of rrc) _ line _ h (λ r second h.
    through (key_of integrity) _ line _ h (λ i third h.
    says-line (lines.Keys (record { alg = c; user = u; rrc = r; integrity = i })) line _ h
    (keys-said alg user rrc integrity c u r i cipher first second third)))))
keys-again fields line h = cc

-- ---- bearers

-- an option leaves the channel and the kind
record IsOf (c d : BearerConfig) : Type 0 where
  lcid : d.channel.lcid ≡ c.channel.lcid
  kind : d.kind ≡ c.kind

kept-by : {A : Type 0} (r : Result A LineRefusal) (f : A → BearerConfig) (c d : BearerConfig)
    → ((n : A) → IsOf c (f n)) → (r >>= λ n. Ok (f n)) ≡ Ok d → IsOf c d
kept-by (Ok n) f c d keeps h = let same : f n ≡ d = cc in subst (λ (e : BearerConfig). IsOf c e) same (keeps n)
kept-by (Err e) f c d keeps h = cc

kept : (c : BearerConfig) → IsOf c c
kept c = record { lcid = refl; kind = refl }

option-kept : (c d : BearerConfig) (name : Name) (text : List ℕ) → option_of c name text ≡ Ok d → IsOf c d
option-kept c d names.Prio text h = kept-by _ _ c d (λ n. record { lcid = refl; kind = refl }) h
option-kept c d names.Pbr text h = kept-by _ _ c d (λ n. record { lcid = refl; kind = refl }) h
option-kept c d names.Bsd text h = kept-by _ _ c d (λ n. record { lcid = refl; kind = refl }) h
option-kept c d names.Lcg text h = kept-by _ _ c d (λ n. record { lcid = refl; kind = refl }) h
option-kept c d names.Reorder text h = kept-by _ _ c d (λ n. record { lcid = refl; kind = refl }) h
option-kept c d names.Sn text h = kept-by _ _ c d (λ n. record { lcid = refl; kind = refl }) h
option-kept c d names.Psn text h = kept-by _ _ c d (λ n. record { lcid = refl; kind = refl }) h
option-kept c d names.PollPdu text h = kept-by _ _ c d (λ n. record { lcid = refl; kind = refl }) h
option-kept c d names.PollByte text h = kept-by _ _ c d (λ n. record { lcid = refl; kind = refl }) h
option-kept c d names.PollRetx text h = kept-by _ _ c d (λ n. record { lcid = refl; kind = refl }) h
option-kept c d names.MaxRetx text h = kept-by _ _ c d (λ n. record { lcid = refl; kind = refl }) h
option-kept c d names.Prohibit text h = kept-by _ _ c d (λ n. record { lcid = refl; kind = refl }) h
option-kept c d names.Count text h = kept-by _ _ c d (λ n. record { lcid = refl; kind = refl }) h

named-kept : (c d : BearerConfig) (name : Option Name) (text : List ℕ) → named_option c name text ≡ Ok d → IsOf c d
named-kept c d None text h = cc
named-kept c d (Some name) text h =
    elim (choose (has c.kind name) (option_of c name text) (Err Word) (Ok d) h) [
      | inl p ↦ option-kept c d name text p.1
      | inr p ↦ cc p.1
    ]

cut-kept : (c d : BearerConfig) (name : List ℕ) (text : Option (List ℕ)) → cut_option c name text ≡ Ok d → IsOf c d
cut-kept c d name None h = cc
cut-kept c d name (Some text) h = named-kept c d (name_of name) text h

options-kept : (c d : BearerConfig) (words : List (List ℕ)) → options_of c words ≡ Ok d → IsOf c d
unfolding options_of word_option
options-kept c d [] h = let same : c ≡ d = cc h in subst (λ (e : BearerConfig). IsOf c e) same (kept c)
options-kept c d (w ∷ ws) h =
    through (cut_option c (before_equals w) (behind_equals w)) _ d _ h (λ e first h.
    let one = cut-kept c e (before_equals w) (behind_equals w) first in
    let rest = options-kept e d ws h in
    record { lcid = rest.lcid ∙ one.lcid; kind = rest.kind ∙ one.kind })

plain-of : (n : ℕ) (k : Kind) → ((config_of n k).channel.lcid ≡ n) × ((config_of n k).kind ≡ k)
unfolding config_of
plain-of n k = (refl, refl)

bearer-text : (lcid : ℕ) (kind : Kind) (options : List (List ℕ)) → AreWords options
    → worded (bearer_words lcid kind (joined options))
    ≡ worded (codes "bearer" ∷ decimal lcid ∷ kind_text kind ∷ options)
bearer-text lcid kind [] some = refl
bearer-text lcid kind ([] ∷ ws) some = absurd (omega (arith, some.0))
bearer-text lcid kind ((x ∷ xs) ∷ ws) some =
    ap (λ (r : List ℕ). codes "bearer" ++ (32 ∷ (decimal lcid ++ (32 ∷ (kind_text kind ++ (32 ∷ r))))))
    (append_assoc (x ∷ xs) (spaced ws) (10 ∷ []) ∙ ap (λ (r : List ℕ). (x ∷ xs) ++ r) (spaced_ended ws))

-- a configuration that is read from these words
bearer-said : (lcid kind : List ℕ) (options : List (List ℕ)) (n : ℕ) (k : Kind) (c : BearerConfig) → AreWords options
    → number_of 0 10 lcid ≡ Ok n → kind_of kind ≡ Ok k → options_of (config_of n k) options ≡ Ok c
    → worded (line_words (lines.Bearer c (joined options))) ≡ worded (codes "bearer" ∷ lcid ∷ kind ∷ options)
bearer-said lcid kind options n k c some number of_kind read =
    let p = options-kept (config_of n k) c options read in
    let plain = plain-of n k in
    bearer-text c.channel.lcid c.kind options some
    ∙ rw (
      p.lcid ∙ plain.0,
      p.kind ∙ plain.1,
      number_again 0 10 n lcid number (omega arith),
      kind_again kind k of_kind,
    ) refl

bearer-printed : (lcid kind : List ℕ) (options : List (List ℕ)) (line : Line) → AreWords options
    → bearer_of (lcid ∷ kind ∷ options) ≡ Ok line
    → worded (line_words line) ≡ worded (codes "bearer" ∷ lcid ∷ kind ∷ options)
unfolding bearer_of
bearer-printed lcid kind options line some h =
    elim (choose (is_twice options) (Err Fields) _ (Ok line) h) [
      | inl p ↦ cc p.1
      | inr p ↦
          through (number_of 0 10 lcid) _ line _ p.1 (λ n first h.
          through (kind_of kind) _ line _ h (λ k second h.
          elim (choose (goes k n) _ (Err Range) (Ok line) h) [
            | inl q ↦
                through (options_of (config_of n k) options) _ line _ q.1 (λ c third h.
                let same : lines.Bearer c (joined options) ≡ line = cc in
                ap (λ (l : Line). worded (line_words l)) (sym same)
                ∙ bearer-said lcid kind options n k c some first second third)
            | inr q ↦ cc q.1
          ]))
    ]

bearer-again : (fields : List (List ℕ)) (line : Line) → AreWords fields → bearer_of fields ≡ Ok line
    → SaysAgain (codes "bearer" ∷ fields) line
unfolding read_words bearer_of
bearer-again (lcid ∷ kind ∷ options) line some h = record {
  again = codes "bearer" ∷ lcid ∷ kind ∷ options;
  like = themselves (codes "bearer" ∷ lcid ∷ kind ∷ options);
  read = ap as_some h;
  printed = bearer-printed lcid kind options line some.2.2 h;
}
bearer-again fields line some h = cc

-- ---- any line

as-named : (first name : List ℕ) (fields : List (List ℕ)) (line : Line) → bytes_eq first name ≡ true
    → SaysAgain (name ∷ fields) line → SaysAgain (first ∷ fields) line
as-named first name fields line e s =
    subst (λ (w : List ℕ). SaysAgain (w ∷ fields) line) (sym (same_word first name e)) s

-- a line of a name, or of another
named : (first name : List ℕ) (fields : List (List ℕ)) (line : Line) (this other : Result Line LineRefusal)
    → (if bytes_eq first name then this else other) ≡ Ok line → (this ≡ Ok line → SaysAgain (name ∷ fields) line)
    → (other ≡ Ok line → SaysAgain (first ∷ fields) line) → SaysAgain (first ∷ fields) line
named first name fields line this other h here there =
    elim (choose (bytes_eq first name) this other (Ok line) h) [
      | inl p ↦ as-named first name fields line p.0 (here p.1)
      | inr p ↦ there p.1
    ]

line-again : (first : List ℕ) (fields : List (List ℕ)) (line : Line) → AreWords fields
    → line_of first fields ≡ Ok line → SaysAgain (first ∷ fields) line
unfolding read_words
line-again first fields line some h =
    named first (codes "harq") fields line (harq_of fields) _ h
    (λ g. same-words (codes "harq" ∷ fields) line (ap as_some g) (harq-words fields line g))
    (λ h. named first (codes "bsr") fields line (bsr_of fields) _ h
    (λ g. same-words (codes "bsr" ∷ fields) line (ap as_some g) (bsr-words fields line g))
    (λ h. named first (codes "keys") fields line (keys_of fields) _ h (keys-again fields line)
    (λ h. named first (codes "bearer") fields line (bearer_of fields) _ h (bearer-again fields line some)
    (λ h. named first (codes "submit") fields line (submit_of fields) _ h (submit-again fields line)
    (λ h. named first (codes "tti") fields line (tti_of fields) _ h
    (λ g. same-words (codes "tti" ∷ fields) line (ap as_some g) (tti-words fields line g))
    (λ h. named first (codes "expire") fields line (expire_of fields) _ h
    (λ g. same-words (codes "expire" ∷ fields) line (ap as_some g) (expire-words fields line g))
    (λ h. named first (codes "handover") fields line (handover_of fields) _ h (handover-again fields line)
    (λ h. named first (codes "loop") fields line (loop_of fields) _ h
    (λ g. same-words (codes "loop" ∷ fields) line (ap as_some g) (loop-words fields line g))
    (λ h. named first (codes "drain") fields line (drain_of fields) _ h
    (λ g. same-words (codes "drain" ∷ fields) line (ap as_some g) (drain-words fields line g))
    (λ h. named first (codes "forge") fields line (forge_of fields) _ h (forge-again fields line)
    (λ h. named first (codes "end") fields line (end_of fields) _ h
    (λ g. same-words (codes "end" ∷ fields) line (ap as_some g) (end-words fields line g))
    (λ h. named first (codes "discard") fields line (discard_of fields) _ h
    (λ g. same-words (codes "discard" ∷ fields) line (ap as_some g) (discard-words fields line g))
    (λ h. named first (codes "drx") fields line (drx_of fields) (Err Word) h
    (λ g. same-words (codes "drx" ∷ fields) line (ap as_some g) (drx-words fields line g))
    (λ h. cc))))))))))))))

words-again : (words : List (List ℕ)) (line : Line) → AreWords words → read_words words ≡ Ok (Some line)
    → SaysAgain words line
unfolding read_words
words-again [] line some h = cc
words-again (first ∷ fields) line some h =
    elim (choose (slice_index first 0 == 35) (Ok None) _ (Ok (Some line)) h) [
      | inl p ↦ cc p.1
      | inr p ↦
          through (line_of first fields) (λ l. Ok (Some l)) (Some line) _ p.1 (λ l read h.
          let same : l ≡ line = cc in
          line-again first fields line some.2 (read ∙ ap Ok same))
    ]

-- the text of a line is that of words which say it
own-text : (text : List ℕ) (line : Line) → nat_lt 20000 (length text) ≡ false
    → SaysAgain (words_of text) line → IsOwnLine line
unfolding read_of
own-text text line short s =
    let good = words_like (words_of text) s.again s.like (are_words text) in
    let long = joined_like (words_of text) s.again s.like in
    let few : nat_lt 20000 (length (joined s.again)) ≡ false =
    grind (arith, nat_tests, long, words_short text, short) in
    record {
      text = joined s.again;
      printed = s.printed ∙ sym (joined_ended s.again);
      read = rw (few, words_again s.again good) s.read;
    }

pub own_lines : (text : List ℕ) (line : Line) → read_of text ≡ Ok (Some line) → IsOwnLine line
unfolding read_of
own_lines text line h =
    elim (nat_lt 20000 (length text)) as (λ b. b ≡ nat_lt 20000 (length text)
    → (if b then Err Long else read_words (words_of text)) ≡ Ok (Some line) → IsOwnLine line) [
      | true ↦ λ e f. cc
      | false ↦ λ e f. own-text text line (sym e) (words-again (words_of text) line (are_words text) f)
    ] refl h

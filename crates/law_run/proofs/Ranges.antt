-- A line that is read has its fields in their ranges.
use Rattle.std.proofs.Common.{◌≡◌, ◌≤◌, ◌<◌, ◌==◌, ◌⊎◌, inl, inr, nat_lt, ℕ, Bool, true, false, List, [], ◌∷◌, length}
use Rattle.std.proofs.Common.{codes, refl, ap, arith, subst, cond}
use Rattle.std.proofs.lemmas.Bool.Decides.{nat_tests}
use Rattle.std.specs.Prelude.{Option, None, Some, IfSome, Result, Ok, Err, slice_index}
use Rattle.std.specs.Str.{bytes_eq}
use Rattle.text_digits.specs.Numerals.{value_behind}
use Rattle.hex.specs.Hex.{decode_of}
use Rattle.hex.specs.declared.error.FromHexError.{FromHexError}
use Rattle.air_record.specs.declared.line.Line.{Line}
use Rattle.air_record.specs.declared.line.Line.TheVariants as lines
use Rattle.air_text.specs.declared.fault.LineRefusal.{LineRefusal}
use Rattle.air_text.specs.declared.fault.LineRefusal.TheVariants.{Word, Number, Range, Hex, Fields}
use Rattle.l2_types.specs.declared.channel.Kind.{Kind}
use Rattle.l2_types.specs.declared.channel.Kind.TheVariants.{Tm, Srb, Um, Am}
use Rattle.bearer_types.specs.declared.config.BearerConfig.{BearerConfig}
use Rattle.bearer_types.specs.Configs.{IsConfig, AreRlcBits, ArePdcpBits}
use Rattle.air_text.specs.declared.options.Name.{Name}
use Rattle.air_text.specs.declared.options.Name.TheVariants.{Prio, Pbr, Bsd, Lcg, Reorder, Sn, Psn, PollPdu, PollByte}
use Rattle.air_text.specs.declared.options.Name.TheVariants.{PollRetx, MaxRetx, Prohibit, Count}
use Rattle.air_text.specs.Words.{◌>>=◌, words_of, is_twice, joined, before_equals, behind_equals}
use Rattle.air_text.specs.Fields.{either_of, limit_of, number_of, is_number, octets_of, octets_in, side_of, outcome_of}
use Rattle.air_text.specs.Fields.{kind_of, cipher_of}
use Rattle.air_text.specs.Options.{goes, config_of, priority_of, has, name_of, psn_of, option_of, named_option}
use Rattle.air_text.specs.Options.{cut_option, word_option, options_of}
use Rattle.air_text.specs.Reading.{read_of, read_words, line_of, key_of, harq_of, bsr_of, keys_of, bearer_of, submit_of}
use Rattle.air_text.specs.Reading.{tti_of, expire_of, handover_of, loop_of, loop_off_of, loop_a_of, loop_b_of, drain_of}
use Rattle.air_text.specs.Reading.{forge_of, end_of, discard_of, drx_of}
use Rattle.air_text.specs.Ranges.{IsInRange}
use Rattle.air_text.proofs.Octets.{some_octets}
use Rattle.air_text.proofs.Configs.{plain_config}
use Rattle.promises.specs.Configs.{HasCount}
use Rattle.law_run.specs.Order.{IsTransparentFirst, HasTransparentFirst, IsFirstCount, HasFirstCount}

-- a configuration in its ranges, with a first COUNT of at most 32 bits, which is 0 but for acknowledged data; a
-- transparent one has the highest priority
abbrev IsCounted : BearerConfig → Type 0
IsCounted c = IsConfig c × ((c.first ≤ 4294967295) × (IsTransparentFirst c × IsFirstCount c.kind c.first))

-- a line likewise
abbrev pub IsWithin : Line → Type 0
IsWithin (lines.Bearer config options) = IsCounted config
IsWithin line = IsInRange line

-- what holds of a value that was read
record Behind {B : Type 0} (P : B → Type 0) (x : Result B LineRefusal) : Type 0 where
  holds : (b : B) → x ≡ Ok b → P b

refused : {B : Type 0} (P : B → Type 0) (e : LineRefusal) → Behind P (Err e)
refused P e = record { holds = λ b is. cc }

given : {B : Type 0} (P : B → Type 0) (a : B) → P a → Behind P (Ok a)
given P a h = record { holds = λ b is. let same : a ≡ b = cc in subst P same h }

bind : {A B : Type 0} (P : B → Type 0) (x : Result A LineRefusal) (f : A → Result B LineRefusal)
    → ((a : A) → x ≡ Ok a → Behind P (f a)) → Behind P (x >>= f)
bind P (Ok a) f h = h a refl
bind P (Err e) f h = refused P e

choose : {B : Type 0} (P : B → Type 0) (b : Bool) (x y : Result B LineRefusal) → Behind P x → Behind P y
    → Behind P (cond b x y)
choose P true x y p q = p
choose P false x y p q = q

number-by : (a b c : Bool) (most v n : ℕ) → nat_lt most v ≡ b
    → cond a (cond b (Err Range) (cond c (Err Range) (Ok v))) (Err Number) ≡ Ok n → n ≤ most
number-by true false false most v n t e = let same : v ≡ n = cc in grind (arith, nat_tests)
number-by true false true most v n t e = cc
number-by true true c most v n t e = cc
number-by false b c most v n t e = cc

number-most : (least most n : ℕ) (text : List ℕ) → number_of least most text ≡ Ok n → n ≤ most
unfolding number_of
number-most least most n text e =
    number-by (is_number text) (nat_lt most (value_behind 0 text)) (nat_lt (value_behind 0 text) least) most
    (value_behind 0 text) n refl e

-- octets, at least one and at most so many
pub record HasOctets (most : ℕ) (octets : List ℕ) : Type 0 where
  pub some : 1 ≤ length octets
  pub short : length octets ≤ most

most-by : (b : Bool) (most : ℕ) (found octets : List ℕ) → nat_lt most (length found) ≡ b
    → cond b (Err Range) (Ok found) ≡ Ok octets → length octets ≤ most
most-by true most found octets t e = cc
most-by false most found octets t e = let same : found ≡ octets = cc in
    subst (λ (o : List ℕ). length o ≤ most) same (grind (arith, nat_tests))

found-by : (b : Bool) (found octets : List ℕ) → cond b (Err Range) (Ok found) ≡ Ok octets → found ≡ octets
found-by true found octets e = cc
found-by false found octets e = cc

decoded-fit : (most : ℕ) (text octets : List ℕ) (r : Result (List ℕ) FromHexError) → 0 < length text
    → decode_of text ≡ r → octets_in most r ≡ Ok octets → HasOctets most octets
decoded-fit most text octets (Err x) some is e = cc
decoded-fit most text octets (Ok found) some is e =
    record {
      some = subst (λ (o : List ℕ). 1 ≤ length o) (found-by (nat_lt most (length found)) found octets e)
          (some_octets text found is some);
      short = most-by (nat_lt most (length found)) most found octets refl e;
    }

octets-by : (b : Bool) (most : ℕ) (text octets : List ℕ) → (length text == 0) ≡ b
    → cond b (Err Hex) (octets_in most (decode_of text)) ≡ Ok octets → HasOctets most octets
octets-by true most text octets t e = cc
octets-by false most text octets t e = decoded-fit most text octets (decode_of text) (grind (arith, nat_tests)) refl e

octets-fit : (most : ℕ) (text octets : List ℕ) → octets_of most text ≡ Ok octets → HasOctets most octets
unfolding octets_of
octets-fit most text octets e = octets-by (length text == 0) most text octets refl e

bsr-range : (fields : List (List ℕ)) → Behind IsWithin (bsr_of fields)
unfolding bsr_of
bsr-range [] = refused IsWithin _
bsr-range (a ∷ []) = search (bind, given)
bsr-range (a ∷ b ∷ fields) = refused IsWithin _

keys-range : (fields : List (List ℕ)) → Behind IsWithin (keys_of fields)
unfolding keys_of
keys-range [] = refused IsWithin _
keys-range (a ∷ []) = refused IsWithin _
keys-range (a ∷ b ∷ []) = refused IsWithin _
keys-range (a ∷ b ∷ c ∷ []) = refused IsWithin _
keys-range (a ∷ b ∷ b2 ∷ b3 ∷ []) =
    bind IsWithin (cipher_of a)
    (λ c. key_of b >>= λ u. key_of b2 >>= λ r. key_of b3 >>= λ i. Ok
    (lines.Keys (record { alg = c; user = u; rrc = r; integrity = i })))
    (λ c c_is. bind IsWithin (key_of b)
    (λ u. key_of b2 >>= λ r. key_of b3 >>= λ i. Ok
    (lines.Keys (record { alg = c; user = u; rrc = r; integrity = i })))
    (λ u u_is. bind IsWithin (key_of b2)
    (λ r. key_of b3 >>= λ i. Ok (lines.Keys (record { alg = c; user = u; rrc = r; integrity = i })))
    (λ r r_is. bind IsWithin (key_of b3)
    (λ i. Ok (lines.Keys (record { alg = c; user = u; rrc = r; integrity = i })))
    (λ i i_is. given IsWithin (lines.Keys (record { alg = c; user = u; rrc = r; integrity = i })) (tt)))))
keys-range (a ∷ b ∷ c ∷ d ∷ e ∷ fields) = refused IsWithin _

-- ---- the configuration of a bearer

choose-where : {B : Type 0} (P : B → Type 0) (b : Bool) (x y : Result B LineRefusal) → (b ≡ true → Behind P x)
    → Behind P y → Behind P (cond b x y)
choose-where P true x y p q = p refl
choose-where P false x y p q = q

least-by : (a b c : Bool) (least v n : ℕ) → nat_lt v least ≡ c
    → cond a (cond b (Err Range) (cond c (Err Range) (Ok v))) (Err Number) ≡ Ok n → least ≤ n
least-by true false false least v n t e = let same : v ≡ n = cc in grind (arith, nat_tests)
least-by true false true least v n t e = cc
least-by true true c least v n t e = cc
least-by false b c least v n t e = cc

number-least : (least most n : ℕ) (text : List ℕ) → number_of least most text ≡ Ok n → least ≤ n
unfolding number_of
number-least least most n text e =
    least-by (is_number text) (nat_lt most (value_behind 0 text)) (nat_lt (value_behind 0 text) least) least
    (value_behind 0 text) n refl e

number-range : (least most n : ℕ) (text : List ℕ) → number_of least most text ≡ Ok n → (least ≤ n) × (n ≤ most)
number-range least most n text e = (number-least least most n text e, number-most least most n text e)

harq-range : (fields : List (List ℕ)) → Behind IsWithin (harq_of fields)
unfolding harq_of
harq-range [] = refused IsWithin _
harq-range (a ∷ []) =
    bind IsWithin (number_of 1 28 a) (λ n. Ok (lines.Harq n))
    (λ n e. given IsWithin (lines.Harq n) (let r = number-range 1 28 n a e in record { some = r.0; few = r.1 }))
harq-range (a ∷ b ∷ fields) = refused IsWithin _

-- a limit that is a number
abbrev Within : ℕ → ℕ → Option ℕ → Type 0
Within least most limit = IfSome limit (λ n. (least ≤ n) × (n ≤ most))

limit-behind : (word : List ℕ) (least most : ℕ) (text : List ℕ)
    → Behind (Within least most) (limit_of word least most text)
unfolding limit_of
limit-behind word least most text =
    choose (Within least most) (bytes_eq text word) _ _ (given (Within least most) None tt)
    (bind (Within least most) (number_of least most text) (λ n. Ok (Some n))
    (λ n e. given (Within least most) (Some n) (number-range least most n text e)))

limit-range : (word : List ℕ) (least most : ℕ) (text : List ℕ) (limit : Option ℕ)
    → limit_of word least most text ≡ Ok limit → Within least most limit
limit-range word least most text limit e = (limit-behind word least most text).holds limit e

most-only : (least most : ℕ) (limit : Option ℕ) → Within least most limit → IfSome limit (λ n. n ≤ most)
most-only least most None is = tt
most-only least most (Some n) is = is.1

either-behind : (one other : ℕ) (text : List ℕ) → Behind (λ n. (n ≡ one) ⊎ (n ≡ other)) (either_of one other text)
unfolding either_of
either-behind one other text =
    bind (λ n. (n ≡ one) ⊎ (n ≡ other)) (number_of 0 100 text)
    (λ n. cond (n == one) (Ok n) (cond (n == other) (Ok n) (Err Range)))
    (λ n e. choose-where (λ n. (n ≡ one) ⊎ (n ≡ other)) (n == one) (Ok n) _
    (λ is. given (λ n. (n ≡ one) ⊎ (n ≡ other)) n (inl (grind (arith, nat_tests, is))))
    (choose-where (λ n. (n ≡ one) ⊎ (n ≡ other)) (n == other) (Ok n) _
    (λ is. given (λ n. (n ≡ one) ⊎ (n ≡ other)) n (inr (grind (arith, nat_tests, is))))
    (refused (λ n. (n ≡ one) ⊎ (n ≡ other)) Range)))

either-range : (one other : ℕ) (text : List ℕ) (n : ℕ) → either_of one other text ≡ Ok n → (n ≡ one) ⊎ (n ≡ other)
either-range one other text n e = (either-behind one other text).holds n e

sn-bits : (kind : Kind) (n : ℕ) → has kind Sn ≡ true → (n ≡ 5) ⊎ (n ≡ 10) → AreRlcBits kind n
sn-bits Tm n has is = cc
sn-bits Srb n has is = cc
sn-bits Um n has is = is
sn-bits Am n has is = cc

psn-bits : (kind : Kind) (text : List ℕ) (n : ℕ) → has kind Psn ≡ true → psn_of kind text ≡ Ok n → ArePdcpBits kind n
psn-bits Tm text n has e = cc
psn-bits Srb text n has e = cc
psn-bits Um text n has e = either-range 7 12 text n e
psn-bits Am text n has e = either-range 12 15 text n e

-- an option is of another kind
not-transparent : (k : Kind) (name : Name) → has k name ≡ true → k ≡ Tm → ⊥
not-transparent Tm name here is = let no : false ≡ true = here in cc
not-transparent Srb name here is = cc
not-transparent Um name here is = cc
not-transparent Am name here is = cc

-- a first COUNT is given of acknowledged data alone
given-first : (k : Kind) (n : ℕ) → has k Count ≡ true → IsFirstCount k n
given-first Tm n here = cc
given-first Srb n here = cc
given-first Um n here = cc
given-first Am n here = tt

option-range : (c : BearerConfig) (name : Name) (text : List ℕ) → has c.kind name ≡ true → IsCounted c
    → Behind IsCounted (option_of c name text)
option-range c Prio text has h =
    bind IsCounted (number_of 1 16 text) (λ n. Ok (record c { channel = record c.channel { priority = n } }))
    (λ n e. given IsCounted (record c { channel = record c.channel { priority = n } }) (
      (let range : (1 ≤ n) × (n ≤ 16) = number-range 1 16 n text e in assumption),
      (h.1.0, (λ tm. absurd (not-transparent c.kind Prio has tm), h.1.1.1)),
    ))
option-range c Pbr text has h =
    bind IsCounted (limit_of (codes "inf") 0 65535 text)
    (λ n. Ok (record c { channel = record c.channel { pbr = n } }))
    (λ n e. given IsCounted (record c { channel = record c.channel { pbr = n } }) (
      (let range : IfSome n (λ k. k ≤ 65535) = most-only 0 65535 n (limit-range (codes "inf") 0 65535 text n e) in
          assumption),
      (h.1.0, (λ tm. absurd (not-transparent c.kind Pbr has tm), h.1.1.1)),
    ))
option-range c Bsd text has h =
    bind IsCounted (number_of 1 1000 text) (λ n. Ok (record c { channel = record c.channel { bucket = n } }))
    (λ n e. given IsCounted (record c { channel = record c.channel { bucket = n } })
    ((let range : (1 ≤ n) × (n ≤ 1000) = number-range 1 1000 n text e in assumption), h.1))
option-range c Lcg text has h =
    bind IsCounted (number_of 0 3 text) (λ n. Ok (record c { channel = record c.channel { group = n } }))
    (λ n e. given IsCounted (record c { channel = record c.channel { group = n } })
    ((let range : n ≤ 3 = number-most 0 3 n text e in assumption), h.1))
option-range c Reorder text has h =
    bind IsCounted (number_of 0 65535 text) (λ n. Ok (record c { rx = record c.rx { reorder = n } }))
    (λ n e. given IsCounted (record c { rx = record c.rx { reorder = n } })
    ((let range : n ≤ 65535 = number-most 0 65535 n text e in assumption), h.1))
option-range c Sn text has h =
    bind IsCounted (either_of 5 10 text) (λ n. Ok (record c { rlc_bits = n }))
    (λ n e. given IsCounted (record c { rlc_bits = n })
    ((let range : AreRlcBits c.kind n = sn-bits c.kind n has (either-range 5 10 text n e) in assumption), h.1))
option-range c Psn text has h =
    bind IsCounted (psn_of c.kind text) (λ n. Ok (record c { pdcp_bits = n }))
    (λ n e. given IsCounted (record c { pdcp_bits = n })
    ((let range : ArePdcpBits c.kind n = psn-bits c.kind text n has e in assumption), h.1))
option-range c PollPdu text has h =
    bind IsCounted (limit_of (codes "inf") 1 65535 text) (λ n. Ok (record c { tx = record c.tx { poll_pdu = n } }))
    (λ n e. given IsCounted (record c { tx = record c.tx { poll_pdu = n } }) (
      (let range : IfSome n (λ k. (1 ≤ k) × (k ≤ 65535)) =
          limit-range (codes "inf") 1 65535 text n e in assumption),
      h.1,
    ))
option-range c PollByte text has h =
    bind IsCounted (limit_of (codes "inf") 1 4000000 text) (λ n. Ok (record c { tx = record c.tx { poll_byte = n } }))
    (λ n e. given IsCounted (record c { tx = record c.tx { poll_byte = n } }) (
      (let range : IfSome n (λ k. (1 ≤ k) × (k ≤ 4000000)) =
          limit-range (codes "inf") 1 4000000 text n e in assumption),
      h.1,
    ))
option-range c PollRetx text has h =
    bind IsCounted (number_of 0 65535 text) (λ n. Ok (record c { tx = record c.tx { poll_retransmit = n } }))
    (λ n e. given IsCounted (record c { tx = record c.tx { poll_retransmit = n } })
    ((let range : n ≤ 65535 = number-most 0 65535 n text e in assumption), h.1))
option-range c MaxRetx text has h =
    bind IsCounted (number_of 1 32 text) (λ n. Ok (record c { tx = record c.tx { max_retx = n } }))
    (λ n e. given IsCounted (record c { tx = record c.tx { max_retx = n } })
    ((let range : (1 ≤ n) × (n ≤ 32) = number-range 1 32 n text e in assumption), h.1))
option-range c Prohibit text has h =
    bind IsCounted (limit_of (codes "off") 0 65535 text) (λ n. Ok (record c { rx = record c.rx { prohibit = n } }))
    (λ n e. given IsCounted (record c { rx = record c.rx { prohibit = n } }) (
      (let range : IfSome n (λ k. k ≤ 65535) = most-only 0 65535 n (limit-range (codes "off") 0 65535 text n e) in
          assumption),
      h.1,
    ))
option-range c Count text has h =
    bind IsCounted (number_of 0 4294967295 text) (λ n. Ok (record c { first = n }))
    (λ n e. given IsCounted (record c { first = n }) (
      assumption,
      (number-most 0 4294967295 n text e, (h.1.1.0, given-first c.kind n has)),
    ))

named-range : (c : BearerConfig) (name : Option Name) (value : List ℕ) → IsCounted c
    → Behind IsCounted (named_option c name value)
named-range c None value h = refused IsCounted _
named-range c (Some name) value h =
    choose-where IsCounted (has c.kind name) (option_of c name value) (Err Word)
    (λ is. option-range c name value is h) (refused IsCounted Word)

cut-range : (c : BearerConfig) (name : List ℕ) (value : Option (List ℕ)) → IsCounted c
    → Behind IsCounted (cut_option c name value)
cut-range c name None h = refused IsCounted _
cut-range c name (Some value) h = named-range c (name_of name) value h

word-range : (c : BearerConfig) (word : List ℕ) → IsCounted c → Behind IsCounted (word_option c word)
unfolding word_option
word-range c word h = cut-range c (before_equals word) (behind_equals word) h

options-range : (c : BearerConfig) (words : List (List ℕ)) → IsCounted c → Behind IsCounted (options_of c words)
unfolding options_of
options-range c [] h = given IsCounted c h
options-range c (w ∷ ws) h =
    bind IsCounted (word_option c w) (λ d. options_of d ws) (λ d e. options-range d ws ((word-range c w h).holds d e))

plain-count : (n : ℕ) (k : Kind) → (config_of n k).first ≤ 4294967295
unfolding config_of
plain-count n k = omega arith

plain-first : (n : ℕ) (k : Kind) → IsTransparentFirst (config_of n k)
unfolding config_of
plain-first n k = λ tm. (ap (λ (x : Kind). priority_of x n) tm, refl)

-- without options it is 0
none-first : (k : Kind) → IsFirstCount k 0
none-first Tm = refl
none-first Srb = refl
none-first Um = refl
none-first Am = tt

plain-begins : (n : ℕ) (k : Kind) → IsFirstCount (config_of n k).kind (config_of n k).first
unfolding config_of
plain-begins n k = none-first k

bearer-range : (fields : List (List ℕ)) → Behind IsWithin (bearer_of fields)
unfolding bearer_of
bearer-range [] = refused IsWithin _
bearer-range (a ∷ []) = refused IsWithin _
bearer-range (a ∷ b ∷ options) =
    choose IsWithin (is_twice options) _ _ (refused IsWithin Fields)
    (bind IsWithin (number_of 0 10 a)
    (λ n. kind_of b >>= λ k. cond (goes k n)
    (options_of (config_of n k) options >>= (λ config. Ok (lines.Bearer config (joined options)))) (Err Range))
    (λ n e. bind IsWithin (kind_of b)
    (λ k. cond (goes k n)
    (options_of (config_of n k) options >>= (λ config. Ok (lines.Bearer config (joined options)))) (Err Range))
    (λ k f. choose-where IsWithin (goes k n)
    (options_of (config_of n k) options >>= (λ config. Ok (lines.Bearer config (joined options)))) (Err Range)
    (λ fits. bind IsWithin (options_of (config_of n k) options)
    (λ config. Ok (lines.Bearer config (joined options)))
    (λ config is. given IsWithin (lines.Bearer config (joined options))
    ((options-range (config_of n k) options (
      plain_config n k fits (number-most 0 10 n a e),
      (plain-count n k, (plain-first n k, plain-begins n k)),
    )).holds config is))) (refused IsWithin Range))))

submit-range : (fields : List (List ℕ)) → Behind IsWithin (submit_of fields)
unfolding submit_of
submit-range [] = refused IsWithin _
submit-range (a ∷ []) = refused IsWithin _
submit-range (a ∷ b ∷ []) = refused IsWithin _
submit-range (a ∷ b ∷ c ∷ []) =
    bind IsWithin (side_of a)
    (λ side. number_of 0 10 b >>= λ n. octets_of 8188 c >>= λ octets. Ok (lines.Submit side n octets))
    (λ side side_is. bind IsWithin (number_of 0 10 b)
    (λ n. octets_of 8188 c >>= λ octets. Ok (lines.Submit side n octets))
    (λ n n_is. bind IsWithin (octets_of 8188 c) (λ octets. Ok (lines.Submit side n octets))
    (λ octets octets_is. given IsWithin (lines.Submit side n octets) (let fit =
    octets-fit 8188 c octets octets_is in record { some = fit.some; short = fit.short }))))
submit-range (a ∷ b ∷ c ∷ d ∷ fields) = refused IsWithin _

tti-range : (fields : List (List ℕ)) → Behind IsWithin (tti_of fields)
unfolding tti_of
tti-range [] = refused IsWithin _
tti-range (a ∷ []) = refused IsWithin _
tti-range (a ∷ b ∷ []) = refused IsWithin _
tti-range (a ∷ b ∷ c ∷ []) = refused IsWithin _
tti-range (a ∷ b ∷ c ∷ d ∷ []) =
    bind IsWithin (number_of 0 9422 a)
    (λ u. outcome_of b >>= λ v. number_of 0 9422 c >>= λ w. outcome_of d >>= λ x. Ok (lines.Tti u v w x))
    (λ u u_is. bind IsWithin (outcome_of b)
    (λ v. number_of 0 9422 c >>= λ w. outcome_of d >>= λ x. Ok (lines.Tti u v w x))
    (λ v v_is. bind IsWithin (number_of 0 9422 c) (λ w. outcome_of d >>= λ x. Ok (lines.Tti u v w x))
    (λ w w_is. bind IsWithin (outcome_of d) (λ x. Ok (lines.Tti u v w x))
    (λ x x_is. given IsWithin (lines.Tti u v w x)
    (record { up = number-most 0 9422 u a u_is; down = number-most 0 9422 w c w_is })))))
tti-range (a ∷ b ∷ c ∷ d ∷ e ∷ fields) = refused IsWithin _

expire-range : (fields : List (List ℕ)) → Behind IsWithin (expire_of fields)
unfolding expire_of
expire-range [] = refused IsWithin _
expire-range (a ∷ []) = refused IsWithin _
expire-range (a ∷ b ∷ []) = refused IsWithin _
expire-range (a ∷ b ∷ c ∷ []) = search (bind, given)
expire-range (a ∷ b ∷ c ∷ d ∷ fields) = refused IsWithin _

handover-range : (fields : List (List ℕ)) → Behind IsWithin (handover_of fields)
unfolding handover_of
handover-range [] = refused IsWithin _
handover-range (a ∷ []) = refused IsWithin _
handover-range (a ∷ b ∷ []) = refused IsWithin _
handover-range (a ∷ b ∷ c ∷ []) = search (bind, given)
handover-range (a ∷ b ∷ c ∷ d ∷ fields) = refused IsWithin _

loop-off-range : (fields : List (List ℕ)) → Behind IsWithin (loop_off_of fields)
unfolding loop_off_of
loop-off-range [] = given IsWithin _ tt
loop-off-range (a ∷ fields) = refused IsWithin _

loop-a-range : (fields : List (List ℕ)) → Behind IsWithin (loop_a_of fields)
unfolding loop_a_of
loop-a-range [] = refused IsWithin _
loop-a-range (a ∷ []) = search (bind, given)
loop-a-range (a ∷ b ∷ fields) = refused IsWithin _

loop-b-range : (fields : List (List ℕ)) → Behind IsWithin (loop_b_of fields)
unfolding loop_b_of
loop-b-range [] = refused IsWithin _
loop-b-range (a ∷ []) = search (bind, given)
loop-b-range (a ∷ b ∷ fields) = refused IsWithin _

loop-range : (fields : List (List ℕ)) → Behind IsWithin (loop_of fields)
unfolding loop_of
loop-range [] = refused IsWithin _
loop-range (mode ∷ fields) =
    choose IsWithin _ _ _ (loop-off-range fields)
    (choose IsWithin _ _ _ (loop-a-range fields)
    (choose IsWithin _ _ _ (loop-b-range fields) (refused IsWithin _)))

drain-range : (fields : List (List ℕ)) → Behind IsWithin (drain_of fields)
unfolding drain_of
drain-range [] = refused IsWithin _
drain-range (a ∷ []) = bind IsWithin _ _ (λ n e. given IsWithin _ (number-most 0 9422 n a e))
drain-range (a ∷ b ∷ fields) = refused IsWithin _

forge-range : (fields : List (List ℕ)) → Behind IsWithin (forge_of fields)
unfolding forge_of
forge-range [] = refused IsWithin _
forge-range (a ∷ []) = refused IsWithin _
forge-range (a ∷ b ∷ []) =
    bind IsWithin (side_of a) (λ side. octets_of 9422 b >>= λ octets. Ok (lines.Forge side octets))
    (λ side side_is. bind IsWithin (octets_of 9422 b) (λ octets. Ok (lines.Forge side octets))
    (λ octets octets_is. given IsWithin (lines.Forge side octets) (let fit = octets-fit 9422 b octets octets_is in
    record { some = fit.some; short = fit.short })))
forge-range (a ∷ b ∷ c ∷ fields) = refused IsWithin _

end-range : (fields : List (List ℕ)) → Behind IsWithin (end_of fields)
unfolding end_of
end-range [] = given IsWithin _ tt
end-range (a ∷ fields) = refused IsWithin _

discard-range : (fields : List (List ℕ)) → Behind IsWithin (discard_of fields)
unfolding discard_of
discard-range [] = refused IsWithin _
discard-range (a ∷ []) = refused IsWithin _
discard-range (a ∷ b ∷ []) = search (bind, given)
discard-range (a ∷ b ∷ c ∷ fields) = refused IsWithin _

drx-range : (fields : List (List ℕ)) → Behind IsWithin (drx_of fields)
unfolding drx_of
drx-range [] = refused IsWithin _
drx-range (a ∷ []) = refused IsWithin _
drx-range (a ∷ b ∷ []) = refused IsWithin _
drx-range (a ∷ b ∷ c ∷ []) = refused IsWithin _
drx-range (a ∷ b ∷ c ∷ d ∷ []) = refused IsWithin _
drx-range (a ∷ b ∷ c ∷ d ∷ e ∷ []) =
    bind IsWithin (number_of 1 200 a)
    (λ v. number_of 0 2560 b >>= λ w. number_of 0 33 c >>= λ x. number_of 1 2560 d >>= λ y. number_of 0 2559 e >>=
    λ z. Ok (lines.Drx (record { on = v; inactivity = w; retransmit = x; cycle = y; offset = z })))
    (λ v v_is. bind IsWithin (number_of 0 2560 b)
    (λ w. number_of 0 33 c >>= λ x. number_of 1 2560 d >>= λ y. number_of 0 2559 e >>= λ z. Ok
    (lines.Drx (record { on = v; inactivity = w; retransmit = x; cycle = y; offset = z })))
    (λ w w_is. bind IsWithin (number_of 0 33 c)
    (λ x. number_of 1 2560 d >>= λ y. number_of 0 2559 e >>= λ z. Ok
    (lines.Drx (record { on = v; inactivity = w; retransmit = x; cycle = y; offset = z })))
    (λ x x_is. bind IsWithin (number_of 1 2560 d)
    (λ y. number_of 0 2559 e >>= λ z. Ok
    (lines.Drx (record { on = v; inactivity = w; retransmit = x; cycle = y; offset = z })))
    (λ y y_is. bind IsWithin (number_of 0 2559 e)
    (λ z. Ok (lines.Drx (record { on = v; inactivity = w; retransmit = x; cycle = y; offset = z })))
    (λ z z_is. given IsWithin
    (lines.Drx (record { on = v; inactivity = w; retransmit = x; cycle = y; offset = z })) (tt))))))
drx-range (a ∷ b ∷ c ∷ d ∷ e ∷ f ∷ fields) = refused IsWithin _

line-range : (first : List ℕ) (fields : List (List ℕ)) → Behind IsWithin (line_of first fields)
line-range first fields =
    choose IsWithin _ _ _ (harq-range fields)
    (choose IsWithin _ _ _ (bsr-range fields)
    (choose IsWithin _ _ _ (keys-range fields)
    (choose IsWithin _ _ _ (bearer-range fields)
    (choose IsWithin _ _ _ (submit-range fields)
    (choose IsWithin _ _ _ (tti-range fields)
    (choose IsWithin _ _ _ (expire-range fields)
    (choose IsWithin _ _ _ (handover-range fields)
    (choose IsWithin _ _ _ (loop-range fields)
    (choose IsWithin _ _ _ (drain-range fields)
    (choose IsWithin _ _ _ (forge-range fields)
    (choose IsWithin _ _ _ (end-range fields)
    (choose IsWithin _ _ _ (discard-range fields)
    (choose IsWithin _ _ _ (drx-range fields) (refused IsWithin _))))))))))))))

-- a line, where there is one
abbrev pub IfLine : Option Line → Type 0
IfLine None = Unit {0}
IfLine (Some line) = IsWithin line

words-range : (words : List (List ℕ)) → Behind IfLine (read_words words)
unfolding read_words
words-range [] = given IfLine _ tt
words-range (first ∷ fields) =
    choose IfLine (slice_index first 0 == 35) _ _ (given IfLine _ tt)
    (bind IfLine (line_of first fields) _ (λ line e. given IfLine _ ((line-range first fields).holds line e)))

text-range : (text : List ℕ) → Behind IfLine (read_of text)
unfolding read_of
text-range text = choose IfLine (nat_lt 20000 (length text)) _ _ (refused IfLine _) (words-range (words_of text))

pub read-within : (text : List ℕ) (line : Line) → read_of text ≡ Ok (Some line) → IsWithin line
read-within text line e = (text-range text).holds (Some line) e

pub in-range : (line : Line) → IsWithin line → IsInRange line
in-range (lines.Bearer config options) h = h.0
in-range (lines.Harq visits) h = h
in-range lines.Bsr h = h
in-range (lines.Keys keys) h = h
in-range (lines.Submit side lcid octets) h = h
in-range (lines.Tti up_grant up down_grant down) h = h
in-range (lines.Expire side lcid clock) h = h
in-range (lines.Handover user rrc integrity) h = h
in-range lines.LoopOff h = h
in-range (lines.LoopA size) h = h
in-range (lines.LoopB delay) h = h
in-range (lines.Drain grant) h = h
in-range (lines.Forge side octets) h = h
in-range lines.End h = h
in-range (lines.Discard lcid count) h = h
in-range (lines.Drx config) h = h

pub has-count : (line : Line) → IsWithin line → HasCount line
has-count (lines.Bearer config options) h = h.1.0
has-count (lines.Harq visits) h = tt
has-count lines.Bsr h = tt
has-count (lines.Keys keys) h = tt
has-count (lines.Submit side lcid octets) h = tt
has-count (lines.Tti up_grant up down_grant down) h = tt
has-count (lines.Expire side lcid clock) h = tt
has-count (lines.Handover user rrc integrity) h = tt
has-count lines.LoopOff h = tt
has-count (lines.LoopA size) h = tt
has-count (lines.LoopB delay) h = tt
has-count (lines.Drain grant) h = tt
has-count (lines.Forge side octets) h = tt
has-count lines.End h = tt
has-count (lines.Discard lcid count) h = tt
has-count (lines.Drx config) h = tt

pub has-first : (line : Line) → IsWithin line → HasTransparentFirst line
has-first (lines.Bearer config options) h = h.1.1.0
has-first line h = tt

pub has-first-count : (line : Line) → IsWithin line → HasFirstCount line
has-first-count (lines.Bearer config options) h = h.1.1.1
has-first-count line h = tt

-- a line that is read has its fields in their ranges
pub lines-in-range : (text : List ℕ) (line : Line) → read_of text ≡ Ok (Some line) → IsInRange line
lines-in-range text line e = in-range line (read-within text line e)

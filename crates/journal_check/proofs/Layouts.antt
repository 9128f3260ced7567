-- A line that was read has the layout of its kind.
use Rattle.std.proofs.Common.{◌≡◌, ◌==◌, ◌≤◌, ◌⊎◌, inl, inr, ◌∙◌, ℕ, Bool, true, false, if◌then◌else◌, nat_lt, List}
use Rattle.std.proofs.Common.{[], ◌∷◌, length, codes, arith, ap, refl, subst, Option, Some, None, Result, Ok, Err}
use Rattle.std.proofs.Common.{slice_index}
use Rattle.std.proofs.lemmas.Bool.Decides.{nat_tests}
use Rattle.std.specs.Str.{bytes_eq}
use Rattle.l2_types.specs.declared.channel.Kind.{Kind}
use Rattle.l2_types.specs.declared.channel.Kind.TheVariants.{Tm, Srb, Um, Am}
use Rattle.bearer_types.specs.declared.config.BearerConfig.{BearerConfig}
use Rattle.bearer_types.specs.Configs.{IsChannelOf, AreRlcBits, ArePdcpBits}
use Rattle.air_record.specs.declared.line.Line.{Line}
use Rattle.air_record.specs.declared.line.Line.TheVariants as lines
use Rattle.air_record.specs.declared.record.Record.{Record}
use Rattle.air_record.specs.declared.record.Record.TheVariants as records
use Rattle.air_text.specs.declared.fault.LineRefusal.{LineRefusal}
use Rattle.air_text.specs.declared.fault.LineRefusal.TheVariants.{Word, Number, Range, Fields, Long}
use Rattle.air_text.specs.declared.options.Name.{Name}
use Rattle.air_text.specs.declared.options.Name.TheVariants as names
use Rattle.air_text.specs.Words.{◌>>=◌, words_of, is_twice, joined, before_equals, behind_equals}
use Rattle.air_text.specs.Fields.{number_of, either_of, limit_of, octets_of, side_of, clock_of, kind_of, outcome_of}
use Rattle.air_text.specs.Fields.{cipher_of, word_of, is_number}
use Rattle.air_text.specs.Options.{goes, config_of, has, name_of, psn_of, option_of, named_option, cut_option}
use Rattle.air_text.specs.Options.{word_option, options_of}
use Rattle.air_text.specs.Reading.{read_of, read_words, line_of, key_of, harq_of, bsr_of, keys_of, bearer_of}
use Rattle.air_text.specs.Reading.{submit_of, tti_of, expire_of, handover_of, loop_of, loop_off_of, loop_a_of}
use Rattle.air_text.specs.Reading.{loop_b_of, drain_of, forge_of, end_of, discard_of, drx_of}
use Rattle.air_text.proofs.Configs.{plain_config}
use Rattle.journal_form.specs.Lines.{HasLayout}
use Rattle.journal_text.specs.Records.{HasText}
use Rattle.journal_text.proofs.OwnFields.{through}
use Rattle.journal_check.specs.Steps.{HasRecordLayout}

abbrev as_line : Line → Result Line LineRefusal
as_line line = Ok line

laid_as : (one line : Line) → as_line one ≡ Ok line → HasLayout one → HasLayout line
laid_as one line e is = let same : one ≡ line = cc in subst HasLayout same is

-- ---- lines of other kinds

harq_laid : (fields : List (List ℕ)) (line : Line) → harq_of fields ≡ Ok line → HasLayout line
unfolding harq_of
harq_laid (visits ∷ []) line h =
    through (number_of 1 28 visits) _ line _ h (λ n is e. laid_as (lines.Harq n) line e tt)
harq_laid fields line h = cc

bsr_laid : (fields : List (List ℕ)) (line : Line) → bsr_of fields ≡ Ok line → HasLayout line
unfolding bsr_of
bsr_laid (on ∷ []) line h = through (word_of (codes "on") on) _ line _ h (λ u is e. laid_as lines.Bsr line e tt)
bsr_laid fields line h = cc

keys_laid : (fields : List (List ℕ)) (line : Line) → keys_of fields ≡ Ok line → HasLayout line
unfolding keys_of
keys_laid (alg ∷ user ∷ rrc ∷ integrity ∷ []) line h =
    through (cipher_of alg) _ line _ h (λ c c_is h.
    through (key_of user) _ line _ h (λ u u_is h.
    through (key_of rrc) _ line _ h (λ r r_is h.
    through (key_of integrity) _ line _ h (λ i i_is e.
    laid_as (lines.Keys (record { alg = c; user = u; rrc = r; integrity = i })) line e tt))))
keys_laid fields line h = cc

submit_laid : (fields : List (List ℕ)) (line : Line) → submit_of fields ≡ Ok line → HasLayout line
unfolding submit_of
submit_laid (node ∷ lcid ∷ text ∷ []) line h =
    through (side_of node) _ line _ h (λ s s_is h.
    through (number_of 0 10 lcid) _ line _ h (λ n n_is h.
    through (octets_of 8188 text) _ line _ h (λ o o_is e. laid_as (lines.Submit s n o) line e tt)))
submit_laid fields line h = cc

tti_laid : (fields : List (List ℕ)) (line : Line) → tti_of fields ≡ Ok line → HasLayout line
unfolding tti_of
tti_laid (up_grant ∷ up ∷ down_grant ∷ down ∷ []) line h =
    through (number_of 0 9422 up_grant) _ line _ h (λ g g_is h.
    through (outcome_of up) _ line _ h (λ o o_is h.
    through (number_of 0 9422 down_grant) _ line _ h (λ i i_is h.
    through (outcome_of down) _ line _ h (λ p p_is e. laid_as (lines.Tti g o i p) line e tt))))
tti_laid fields line h = cc

expire_laid : (fields : List (List ℕ)) (line : Line) → expire_of fields ≡ Ok line → HasLayout line
unfolding expire_of
expire_laid (node ∷ lcid ∷ clock ∷ []) line h =
    through (side_of node) _ line _ h (λ s s_is h.
    through (number_of 0 10 lcid) _ line _ h (λ n n_is h.
    through (clock_of clock) _ line _ h (λ c c_is e. laid_as (lines.Expire s n c) line e tt)))
expire_laid fields line h = cc

handover_laid : (fields : List (List ℕ)) (line : Line) → handover_of fields ≡ Ok line → HasLayout line
unfolding handover_of
handover_laid (user ∷ rrc ∷ integrity ∷ []) line h =
    through (key_of user) _ line _ h (λ u u_is h.
    through (key_of rrc) _ line _ h (λ r r_is h.
    through (key_of integrity) _ line _ h (λ i i_is e. laid_as (lines.Handover u r i) line e tt)))
handover_laid fields line h = cc

loop_off_laid : (fields : List (List ℕ)) (line : Line) → loop_off_of fields ≡ Ok line → HasLayout line
unfolding loop_off_of
loop_off_laid [] line h = laid_as lines.LoopOff line h tt
loop_off_laid fields line h = cc

loop_a_laid : (fields : List (List ℕ)) (line : Line) → loop_a_of fields ≡ Ok line → HasLayout line
unfolding loop_a_of
loop_a_laid (size ∷ []) line h =
    through (number_of 0 8188 size) _ line _ h (λ n is e. laid_as (lines.LoopA n) line e tt)
loop_a_laid fields line h = cc

loop_b_laid : (fields : List (List ℕ)) (line : Line) → loop_b_of fields ≡ Ok line → HasLayout line
unfolding loop_b_of
loop_b_laid (delay ∷ []) line h =
    through (number_of 0 65535 delay) _ line _ h (λ n is e. laid_as (lines.LoopB n) line e tt)
loop_b_laid fields line h = cc

drain_laid : (fields : List (List ℕ)) (line : Line) → drain_of fields ≡ Ok line → HasLayout line
unfolding drain_of
drain_laid (grant ∷ []) line h =
    through (number_of 0 9422 grant) _ line _ h (λ n is e. laid_as (lines.Drain n) line e tt)
drain_laid fields line h = cc

forge_laid : (fields : List (List ℕ)) (line : Line) → forge_of fields ≡ Ok line → HasLayout line
unfolding forge_of
forge_laid (node ∷ text ∷ []) line h =
    through (side_of node) _ line _ h (λ s s_is h.
    through (octets_of 9422 text) _ line _ h (λ o o_is e. laid_as (lines.Forge s o) line e tt))
forge_laid fields line h = cc

end_laid : (fields : List (List ℕ)) (line : Line) → end_of fields ≡ Ok line → HasLayout line
unfolding end_of
end_laid [] line h = laid_as lines.End line h tt
end_laid fields line h = cc

discard_laid : (fields : List (List ℕ)) (line : Line) → discard_of fields ≡ Ok line → HasLayout line
unfolding discard_of
discard_laid (lcid ∷ ttis ∷ []) line h =
    through (number_of 0 10 lcid) _ line _ h (λ n n_is h.
    through (number_of 2 65535 ttis) _ line _ h (λ t t_is e. laid_as (lines.Discard n t) line e tt))
discard_laid fields line h = cc

drx_laid : (fields : List (List ℕ)) (line : Line) → drx_of fields ≡ Ok line → HasLayout line
unfolding drx_of
drx_laid (on ∷ inactivity ∷ retransmit ∷ cycle ∷ offset ∷ []) line h =
    through (number_of 1 200 on) _ line _ h (λ a a_is h.
    through (number_of 0 2560 inactivity) _ line _ h (λ b b_is h.
    through (number_of 0 33 retransmit) _ line _ h (λ c c_is h.
    through (number_of 1 2560 cycle) _ line _ h (λ d d_is h.
    through (number_of 0 2559 offset) _ line _ h (λ o o_is e.
    laid_as (lines.Drx (record { on = a; inactivity = b; retransmit = c; cycle = d; offset = o })) line e tt)))))
drx_laid fields line h = cc

-- ---- the line of a bearer

-- its channel is one, and the bits are those of its kind
abbrev IsLaid : BearerConfig → Type 0
IsLaid c = (c.channel.lcid ≤ 10) × AreRlcBits c.kind c.rlc_bits × ArePdcpBits c.kind c.pdcp_bits

abbrev as_config : BearerConfig → Result BearerConfig LineRefusal
as_config c = Ok c

config_as : (c d : BearerConfig) → as_config c ≡ Ok d → IsLaid c → IsLaid d
config_as c d e is = let same : c ≡ d = cc in subst IsLaid same is

number_by : (a b c : Bool) (most v n : ℕ) → nat_lt most v ≡ b
    → (if a then (if b then Err Range else if c then Err Range else Ok v) else Err Number) ≡ Ok n → n ≤ most
number_by true false false most v n t e = let same : v ≡ n = cc in grind (arith, nat_tests)
number_by true false true most v n t e = cc
number_by true true c most v n t e = cc
number_by false b c most v n t e = cc

number_most : (least most n : ℕ) (text : List ℕ) → number_of least most text ≡ Ok n → n ≤ most
unfolding number_of
number_most least most n text e = number_by (is_number text) _ _ most _ n refl e

one_by : (a b : Bool) (one other m n : ℕ) → (m == one) ≡ a → (m == other) ≡ b
    → (if a then Ok m else if b then Ok m else Err Range) ≡ Ok n → (n ≡ one) ⊎ (n ≡ other)
one_by true b one other m n t u e = let same : m ≡ n = cc in inl (grind (arith, nat_tests))
one_by false true one other m n t u e = let same : m ≡ n = cc in inr (grind (arith, nat_tests))
one_by false false one other m n t u e = cc

one_of : (one other n : ℕ) (text : List ℕ) → either_of one other text ≡ Ok n → (n ≡ one) ⊎ (n ≡ other)
unfolding either_of
one_of one other n text e =
    through (number_of 0 100 text) _ n _ e (λ m is f. one_by (m == one) (m == other) one other m n refl refl f)

sn_bits : (kind : Kind) (n : ℕ) → has kind names.Sn ≡ true → (n ≡ 5) ⊎ (n ≡ 10) → AreRlcBits kind n
sn_bits Tm n has is = cc
sn_bits Srb n has is = cc
sn_bits Um n has is = is
sn_bits Am n has is = cc

psn_bits : (kind : Kind) (text : List ℕ) (n : ℕ) → has kind names.Psn ≡ true → psn_of kind text ≡ Ok n
    → ArePdcpBits kind n
psn_bits Tm text n has e = cc
psn_bits Srb text n has e = cc
psn_bits Um text n has e = one_of 7 12 n text e
psn_bits Am text n has e = one_of 12 15 n text e

option_laid : (c d : BearerConfig) (name : Name) (text : List ℕ) → has c.kind name ≡ true → IsLaid c
    → option_of c name text ≡ Ok d → IsLaid d
option_laid c d names.Prio text is h e = through (number_of 1 16 text) _ d _ e
    (λ n m f. config_as (record c { channel = record c.channel { priority = n } }) d f h)
option_laid c d names.Pbr text is h e = through (limit_of (codes "inf") 0 65535 text) _ d _ e
    (λ n m f. config_as (record c { channel = record c.channel { pbr = n } }) d f h)
option_laid c d names.Bsd text is h e = through (number_of 1 1000 text) _ d _ e
    (λ n m f. config_as (record c { channel = record c.channel { bucket = n } }) d f h)
option_laid c d names.Lcg text is h e = through (number_of 0 3 text) _ d _ e
    (λ n m f. config_as (record c { channel = record c.channel { group = n } }) d f h)
option_laid c d names.Reorder text is h e = through (number_of 0 65535 text) _ d _ e
    (λ n m f. config_as (record c { rx = record c.rx { reorder = n } }) d f h)
option_laid c d names.Sn text is h e = through (either_of 5 10 text) _ d _ e
    (λ n m f. config_as (record c { rlc_bits = n }) d f (h.0, sn_bits c.kind n is (one_of 5 10 n text m), h.2))
option_laid c d names.Psn text is h e = through (psn_of c.kind text) _ d _ e
    (λ n m f. config_as (record c { pdcp_bits = n }) d f (h.0, h.1, psn_bits c.kind text n is m))
option_laid c d names.PollPdu text is h e = through (limit_of (codes "inf") 1 65535 text) _ d _ e
    (λ n m f. config_as (record c { tx = record c.tx { poll_pdu = n } }) d f h)
option_laid c d names.PollByte text is h e = through (limit_of (codes "inf") 1 4000000 text) _ d _ e
    (λ n m f. config_as (record c { tx = record c.tx { poll_byte = n } }) d f h)
option_laid c d names.PollRetx text is h e = through (number_of 0 65535 text) _ d _ e
    (λ n m f. config_as (record c { tx = record c.tx { poll_retransmit = n } }) d f h)
option_laid c d names.MaxRetx text is h e = through (number_of 1 32 text) _ d _ e
    (λ n m f. config_as (record c { tx = record c.tx { max_retx = n } }) d f h)
option_laid c d names.Prohibit text is h e = through (limit_of (codes "off") 0 65535 text) _ d _ e
    (λ n m f. config_as (record c { rx = record c.rx { prohibit = n } }) d f h)
option_laid c d names.Count text is h e = through (number_of 0 4294967295 text) _ d _ e
    (λ n m f. config_as (record c { first = n }) d f h)

named_by : (b : Bool) (c d : BearerConfig) (name : Name) (text : List ℕ) → has c.kind name ≡ b → IsLaid c
    → (if b then option_of c name text else Err Word) ≡ Ok d → IsLaid d
named_by true c d name text is h e = option_laid c d name text is h e
named_by false c d name text is h e = cc

named_laid : (c d : BearerConfig) (name : Option Name) (text : List ℕ) → IsLaid c → named_option c name text ≡ Ok d
    → IsLaid d
named_laid c d None text h e = cc
named_laid c d (Some name) text h e = named_by (has c.kind name) c d name text refl h e

cut_laid : (c d : BearerConfig) (name : List ℕ) (text : Option (List ℕ)) → IsLaid c → cut_option c name text ≡ Ok d
    → IsLaid d
cut_laid c d name None h e = cc
cut_laid c d name (Some text) h e = named_laid c d (name_of name) text h e

options_laid : (c d : BearerConfig) (words : List (List ℕ)) → IsLaid c → options_of c words ≡ Ok d → IsLaid d
unfolding options_of word_option
options_laid c d [] h e = config_as c d e h
options_laid c d (w ∷ ws) h e =
    through (cut_option c (before_equals w) (behind_equals w)) _ d _ e
    (λ x first f. options_laid x d ws (cut_laid c x (before_equals w) (behind_equals w) h first) f)

channel_low : (kind : Kind) (lcid : ℕ) → IsChannelOf kind lcid → lcid ≤ 10
channel_low Tm lcid is = omega (arith, is)
channel_low Srb lcid is = omega (arith, is.1)
channel_low Um lcid is = is.1
channel_low Am lcid is = is.1

plain_laid : (n : ℕ) (k : Kind) → goes k n ≡ true → n ≤ 10 → IsLaid (config_of n k)
plain_laid n k fits low =
    let c = config_of n k in
    let plain = plain_config n k fits low in
    (channel_low c.kind c.channel.lcid plain.lcid, plain.rlc_bits, plain.pdcp_bits)

goes_by : (b : Bool) (n : ℕ) (k : Kind) (options : List (List ℕ)) (line : Line) → goes k n ≡ b → n ≤ 10
    → (if b then (options_of (config_of n k) options >>= λ config. Ok (lines.Bearer config (joined options)))
    else Err Range) ≡ Ok line
    → HasLayout line
goes_by true n k options line fits low e =
    through (options_of (config_of n k) options) _ line _ e
    (λ c is f. laid_as (lines.Bearer c (joined options)) line f
    (options_laid (config_of n k) c options (plain_laid n k fits low) is))
goes_by false n k options line fits low e = cc

twice_by : (b : Bool) (lcid kind : List ℕ) (options : List (List ℕ)) (line : Line)
    → (if b then Err Fields else (number_of 0 10 lcid >>= λ n. kind_of kind >>= λ k. if goes k n
    then (options_of (config_of n k) options >>= λ config. Ok (lines.Bearer config (joined options)))
    else Err Range)) ≡ Ok line
    → HasLayout line
twice_by true lcid kind options line e = cc
twice_by false lcid kind options line e =
    through (number_of 0 10 lcid) _ line _ e (λ n n_is f.
    through (kind_of kind) _ line _ f (λ k k_is g.
    goes_by (goes k n) n k options line refl (number_most 0 10 n lcid n_is) g))

bearer_laid : (fields : List (List ℕ)) (line : Line) → bearer_of fields ≡ Ok line → HasLayout line
unfolding bearer_of
bearer_laid (lcid ∷ kind ∷ options) line h = twice_by (is_twice options) lcid kind options line h
bearer_laid fields line h = cc

-- ---- any line

either : (b : Bool) (line : Line) (this other : Result Line LineRefusal) → (if b then this else other) ≡ Ok line
    → (this ≡ Ok line → HasLayout line) → (other ≡ Ok line → HasLayout line) → HasLayout line
either true line this other h here there = here h
either false line this other h here there = there h

loop_laid : (fields : List (List ℕ)) (line : Line) → loop_of fields ≡ Ok line → HasLayout line
unfolding loop_of
loop_laid [] line h = cc
loop_laid (mode ∷ fields) line h =
    either (bytes_eq mode (codes "off")) line (loop_off_of fields) _ h (loop_off_laid fields line)
    (λ h. either (bytes_eq mode (codes "a")) line (loop_a_of fields) _ h (loop_a_laid fields line)
    (λ h. either (bytes_eq mode (codes "b")) line (loop_b_of fields) (Err Word) h (loop_b_laid fields line)
    (λ h. cc)))

line_laid : (first : List ℕ) (fields : List (List ℕ)) (line : Line) → line_of first fields ≡ Ok line → HasLayout line
line_laid first fields line h =
    either (bytes_eq first (codes "harq")) line (harq_of fields) _ h (harq_laid fields line)
    (λ h. either (bytes_eq first (codes "bsr")) line (bsr_of fields) _ h (bsr_laid fields line)
    (λ h. either (bytes_eq first (codes "keys")) line (keys_of fields) _ h (keys_laid fields line)
    (λ h. either (bytes_eq first (codes "bearer")) line (bearer_of fields) _ h (bearer_laid fields line)
    (λ h. either (bytes_eq first (codes "submit")) line (submit_of fields) _ h (submit_laid fields line)
    (λ h. either (bytes_eq first (codes "tti")) line (tti_of fields) _ h (tti_laid fields line)
    (λ h. either (bytes_eq first (codes "expire")) line (expire_of fields) _ h (expire_laid fields line)
    (λ h. either (bytes_eq first (codes "handover")) line (handover_of fields) _ h (handover_laid fields line)
    (λ h. either (bytes_eq first (codes "loop")) line (loop_of fields) _ h (loop_laid fields line)
    (λ h. either (bytes_eq first (codes "drain")) line (drain_of fields) _ h (drain_laid fields line)
    (λ h. either (bytes_eq first (codes "forge")) line (forge_of fields) _ h (forge_laid fields line)
    (λ h. either (bytes_eq first (codes "end")) line (end_of fields) _ h (end_laid fields line)
    (λ h. either (bytes_eq first (codes "discard")) line (discard_of fields) _ h (discard_laid fields line)
    (λ h. either (bytes_eq first (codes "drx")) line (drx_of fields) (Err Word) h (drx_laid fields line)
    (λ h. cc))))))))))))))

word_by : (b : Bool) (first : List ℕ) (fields : List (List ℕ)) (line : Line)
    → (if b then Ok None else (line_of first fields >>= λ l. Ok (Some l))) ≡ Ok (Some line) → HasLayout line
word_by true first fields line h = cc
word_by false first fields line h =
    through (line_of first fields) (λ l. Ok (Some l)) (Some line) _ h (λ l read e.
    let same : l ≡ line = cc in
    line_laid first fields line (read ∙ ap Ok same))

words_laid : (words : List (List ℕ)) (line : Line) → read_words words ≡ Ok (Some line) → HasLayout line
unfolding read_words
words_laid [] line h = cc
words_laid (first ∷ fields) line h = word_by (slice_index first 0 == 35) first fields line h

text_by : (b : Bool) (text : List ℕ) (line : Line)
    → (if b then Err Long else read_words (words_of text)) ≡ Ok (Some line) → HasLayout line
text_by true text line h = cc
text_by false text line h = words_laid (words_of text) line h

text_laid : (text : List ℕ) (line : Line) → read_of text ≡ Ok (Some line) → HasLayout line
unfolding read_of
text_laid text line h = text_by (nat_lt 20000 (length text)) text line h

-- the record of a text
pub laid : (text : List ℕ) (one : Record) → HasText text one → HasRecordLayout one
laid text (records.Line number line) h = text_laid h.0.1.text line h.0.1.read
laid text one h = tt

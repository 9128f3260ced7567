-- The PDUs of a channel that records tell of, among all that they tell of it.
use Rattle.std.proofs.Common.{◌≡◌, ℕ, Bool, true, false, cond, ◌&&◌, if◌then◌else◌, List, [], ◌∷◌, ◌++◌, map}
use Rattle.std.proofs.Common.{refl, ap, sym, ◌∙◌}
use Rattle.std.specs.List.{filter, flat_map}
use Rattle.std.proofs.lemmas.List.Elements.{filter-append}
use Rattle.air_record.specs.declared.line.Line.{Line}
use Rattle.air_record.specs.declared.line.Line.TheVariants as lines
use Rattle.air_record.specs.declared.record.Record.{Record}
use Rattle.air_record.specs.declared.record.Record.TheVariants as records
use Rattle.air_text.specs.Groups.{Group}
use Rattle.bearer_types.specs.Sides.{sender_of, is_same}
use Rattle.l2_types.specs.declared.side.Side.{Side}
use Rattle.law_deliver.proofs.SrbDelivery.Passing.{passes_then, passes_given, passes_passing}
use Rattle.law_deliver.specs.SrbDelivery.Arrival.{passes_of}
use Rattle.law_words.specs.Arrivals.{Given, AccountEntry}
use Rattle.law_words.specs.Passing.{Passing, Writes, Comes}
use Rattle.promises.specs.Arrival.{only_if, entries_at, entries_in, entries_ended, entries_from}
use Rattle.promises.specs.Events.{told_on}
use Rattle.promises.specs.Given.{given_in, entries_of, entries_passed}
use Rattle.promises.specs.Parts.{is_handover}
use Rattle.promises.specs.Pdus.{carried}
use Rattle.promises.specs.Records.{is_of_air, is_got, sent_last}
use Rattle.promises.specs.Sequence.{passes_at, passes_in, passed_since}
use Rattle.law_run.proofs.EmptyLists.{parts_empty}

-- ---- of records

if_passes : (b : Bool) (ps : List Passing) → passes_of (only_if b (entries_passed ps)) ≡ (if b then ps else [])
if_passes true ps = passes_passing ps
if_passes false ps = refl

if_given : (b : Bool) (gs : List Given) → passes_of (only_if b (entries_of gs)) ≡ []
if_given true gs = passes_given gs
if_given false gs = refl

record_passes : (bits l : ℕ) (from : Side) (sent : List ℕ) (one : Record)
    → passes_of (entries_at bits l from sent one) ≡ passes_at l from sent one
record_passes bits l from sent (records.Of side event) =
    if_given (is_same side from) (flat_map (given_in bits) (told_on l (event ∷ [])))
record_passes bits l from sent (records.Block direction process fresh version octets) =
    if_passes (fresh && is_same (sender_of direction) from) (map (λ pdu. Writes pdu) (carried l direction octets))
record_passes bits l from sent (records.Air direction what heard) =
    if_passes (is_got what && is_same (sender_of direction) from) (map (λ pdu. Comes pdu) (carried l direction sent))
record_passes bits l from sent one = refl

pub tells_passes : (bits l : ℕ) (from : Side) (sent : List ℕ) (told : List Record)
    → passes_of (entries_in bits l from sent told) ≡ passes_in l from sent told
tells_passes bits l from sent [] = refl
tells_passes bits l from sent (one ∷ told) =
    passes_then (entries_at bits l from sent one) (entries_in bits l from (sent_last one sent) told)
    ∙ ap (λ (ps : List Passing). ps ++ passes_of (entries_in bits l from (sent_last one sent) told))
    (record_passes bits l from sent one)
    ∙ ap (λ (ps : List Passing). passes_at l from sent one ++ ps) (tells_passes bits l from (sent_last one sent) told)

-- ---- where nothing is told of the air

still_by : (b : Bool) (l : ℕ) (from : Side) (sent : List ℕ) (one : Record) (told : List Record) → is_of_air one ≡ b
    → cond b (one ∷ filter is_of_air told) (filter is_of_air told) ≡ []
    → (filter is_of_air told ≡ [] → passes_in l from (sent_last one sent) told ≡ [])
    → passes_in l from sent (one ∷ told) ≡ []
still_by true l from sent one told is none rest = absurd cc
still_by false l from sent one told is none rest =
    ap (λ (ps : List Passing). ps ++ passes_in l from (sent_last one sent) told) (one_still l from sent one is)
    ∙ rest none
  where
    one_still : (l : ℕ) (from : Side) (sent : List ℕ) (one : Record) → is_of_air one ≡ false
        → passes_at l from sent one ≡ []
    one_still l from sent (records.Block direction process fresh version octets) is = absurd cc
    one_still l from sent (records.Air direction what heard) is = absurd cc
    one_still l from sent one is = refl

pub no_air_passes : (l : ℕ) (from : Side) (sent : List ℕ) (told : List Record) → filter is_of_air told ≡ []
    → passes_in l from sent told ≡ []
no_air_passes l from sent [] none = refl
no_air_passes l from sent (one ∷ told) none =
    still_by (is_of_air one) l from sent one told refl none (no_air_passes l from (sent_last one sent) told)

pub none_behind : (xs ys : List Record) → filter is_of_air (xs ++ ys) ≡ [] → filter is_of_air ys ≡ []
none_behind xs ys e =
    (parts_empty (filter is_of_air xs) (filter is_of_air ys) (sym (filter-append is_of_air xs ys) ∙ e)).1

-- ---- of groups

passes_ended : (line : Line) → passes_of (entries_ended line) ≡ []
passes_ended (lines.Handover user rrc integrity) = refl
passes_ended line = refl

pub passed_stays : (over : Bool) → over ≡ false → (before now : List Passing)
    → (if over then [] else before) ++ now ≡ before ++ now
passed_stays true e before now = absurd cc
passed_stays false e before now = refl

pub passed_line : (bits l : ℕ) (from : Side) (line : Line) (before : List AccountEntry) (told : List Record)
    → passes_of (before ++ (entries_ended line ++ entries_in bits l from [] told))
    ≡ passes_of before ++ passes_in l from [] told
passed_line bits l from line before told =
    passes_then before (entries_ended line ++ entries_in bits l from [] told)
    ∙ ap (λ (ps : List Passing). passes_of before ++ ps)
    (passes_then (entries_ended line) (entries_in bits l from [] told)
    ∙ ap (λ (ps : List Passing). ps ++ passes_of (entries_in bits l from [] told)) (passes_ended line)
    ∙ tells_passes bits l from [] told)

none_if : (over : Bool) (before now : List Passing) → before ≡ [] → now ≡ []
    → (if over then [] else before) ++ now ≡ []
none_if true before now p q = q
none_if false before now p q = ap (λ (ps : List Passing). ps ++ now) p ∙ q

pub none_passed : (bits l : ℕ) (from : Side) (past : List Group) → entries_from bits l from past ≡ []
    → passed_since l from past ≡ []
none_passed bits l from [] e = refl
none_passed bits l from (g ∷ past) e =
    let tells = entries_in bits l from [] g.events in
    let parts = parts_empty (entries_from bits l from past) (entries_ended g.line ++ tells) e in
    let now = parts_empty (entries_ended g.line) tells parts.1 in
    none_if (is_handover g.line) (passed_since l from past) (passes_in l from [] g.events)
    (none_passed bits l from past parts.0)
    (sym (tells_passes bits l from [] g.events) ∙ ap passes_of now.1)

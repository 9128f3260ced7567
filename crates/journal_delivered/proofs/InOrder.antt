-- What is kept are SDUs that were submitted, in order; all of them where none is discarded.
use Rattle.std.proofs.Common.{◌≡◌, ℕ, ◌-◌, Bool, true, false, List, [], ◌∷◌, ◌++◌, take, drop}
use Rattle.std.proofs.Common.{Option, Some, None, inl, inr, refl, ap, sym, ◌∙◌, subst, if◌then◌else◌}
use Rattle.std.proofs.Common.{append-nil, append_assoc}
use Rattle.std.specs.Prelude.{◌&&◌, ◌==◌, not, map, cond, MatchOption}
use Rattle.std.specs.List.{filter}
use Rattle.std.proofs.lemmas.Grind.{flat_map-append}
use Rattle.std.proofs.lemmas.List.{take-append-drop}
use Rattle.l2_types.specs.declared.side.Side.{Side}
use Rattle.l2_types.specs.declared.side.Side.TheVariants.{Nb, Ue}
use Rattle.bearer_types.specs.declared.event.Event.{Event}
use Rattle.bearer_types.specs.declared.event.Event.TheVariants.{Take, Discard}
use Rattle.bearer_types.specs.Sides.{is_same, other}
use Rattle.air_record.specs.declared.line.Line.{Line}
use Rattle.air_record.specs.declared.line.Line.TheVariants as lines
use Rattle.air_record.specs.declared.record.Record.{Record}
use Rattle.air_record.specs.declared.record.Record.TheVariants as records
use Rattle.air_text.specs.Groups.{Group, history}
use Rattle.law_words.specs.Lists.{AreFirstSdus, IsSubsequence}
use Rattle.promises.specs.Delivery.{discarded}
use Rattle.promises.specs.Events.{discards_in, discards_on}
use Rattle.promises.specs.Flows.{is_refused_at_once, handed_in, looped_at, submitted, delivered}
use Rattle.promises.specs.Parts.{part_of_line}
use Rattle.promises.specs.Records.{is_looped, event_of, events_of, sdu_of}
use Rattle.journal_takes.specs.TakeEvents.{TakeEvent, SduSubmitted, SduDiscarded, PduTaken, next_new, kept, without}
use Rattle.journal_takes.proofs.SduLists.{drop_more}
use Rattle.journal_flows.specs.FlowsTold.{flows_told}
use Rattle.journal_flows.specs.Laws.{bearer_on}
use Rattle.journal_lives.specs.LifeEvents.{LifeEvent}
use Rattle.journal_delivered.specs.RightDelivery.{first_by, since_bearer, record_tells, records_tell, sdus_told}
use Rattle.journal_delivered.specs.RightDelivery.{IsDelivered}
use Rattle.journal_delivered.specs.DeliveryLaws.{ComeInOrder, RightComeInOrder}
use Rattle.journal_delivered.proofs.Lists.{Sdus}

-- ---- some of a list, in its order

skip : (ys xs : Sdus) (x : List ℕ) → IsSubsequence ys xs → IsSubsequence ys (x ∷ xs)
skip [] xs x h = tt
skip (y ∷ ys) xs x h = inr h

tail_some : (y : List ℕ) (ys xs : Sdus) → IsSubsequence (y ∷ ys) xs → IsSubsequence ys xs
tail_some y ys [] h = absurd h
tail_some y ys (x ∷ xs) (inl h) = skip ys xs x h.1
tail_some y ys (x ∷ xs) (inr h) = skip ys xs x (tail_some y ys xs h)

last_some : (xs : Sdus) (z : List ℕ) → IsSubsequence (z ∷ []) (xs ++ z ∷ [])
last_some [] z = inl (refl, tt)
last_some (x ∷ xs) z = inr (last_some xs z)

push_some : (ys xs : Sdus) (z : List ℕ) → IsSubsequence ys xs → IsSubsequence (ys ++ z ∷ []) (xs ++ z ∷ [])
push_some [] xs z h = last_some xs z
push_some (y ∷ ys) [] z h = absurd h
push_some (y ∷ ys) (x ∷ xs) z (inl h) = inl (h.0, push_some ys xs z h.1)
push_some (y ∷ ys) (x ∷ xs) z (inr h) = inr (push_some (y ∷ ys) xs z h)

less_some : (ds : Sdus) (b : List ℕ) (bs xs : Sdus) → IsSubsequence (ds ++ b ∷ bs) xs → IsSubsequence (ds ++ bs) xs
less_some [] b bs xs h = tail_some b bs xs h
less_some (d ∷ ds) b bs [] h = absurd h
less_some (d ∷ ds) b bs (x ∷ xs) (inl h) = inl (h.0, less_some ds b bs xs h.1)
less_some (d ∷ ds) b bs (x ∷ xs) (inr h) = inr (less_some (d ∷ ds) b bs xs h)

drop_some : (ds bs xs : Sdus) → IsSubsequence (ds ++ bs) xs → IsSubsequence (ds ++ drop 1 bs) xs
drop_some ds [] xs h = h
drop_some ds (b ∷ bs) xs h = less_some ds b bs xs h

out_some : (n : ℕ) (ys xs : Sdus) → IsSubsequence ys xs → IsSubsequence (without n ys) xs
out_some n ys xs h =
    subst (λ (zs : Sdus). IsSubsequence (take n ys ++ zs) xs) (drop_more 1 n ys)
    (drop_some (take n ys) (drop n ys) xs
    (subst (λ (zs : Sdus). IsSubsequence zs xs) (sym (take-append-drop n ys)) h))

front_some : (ys zs xs : Sdus) → IsSubsequence (ys ++ zs) xs → IsSubsequence ys xs
front_some [] zs xs h = tt
front_some (y ∷ ys) zs [] h = absurd h
front_some (y ∷ ys) zs (x ∷ xs) (inl h) = inl (h.0, front_some ys zs xs h.1)
front_some (y ∷ ys) zs (x ∷ xs) (inr h) = inr (front_some (y ∷ ys) zs xs h)

-- ---- what is kept

record Keeps (first : ℕ) (es : List TakeEvent) (subs : Sdus) (gone : List ℕ) : Type 0 where
  some : IsSubsequence (kept first es) subs
  all : gone ≡ [] → kept first es ≡ subs

nil_front : (xs ys : List ℕ) → xs ++ ys ≡ [] → xs ≡ []
nil_front [] ys h = refl
nil_front (x ∷ xs) ys h = absurd cc

nil_end : (xs : List ℕ) (y : ℕ) → xs ++ y ∷ [] ≡ [] → ⊥
nil_end [] y h = cc
nil_end (x ∷ xs) y h = cc

keeps_sdu : (first : ℕ) (es : List TakeEvent) (subs : Sdus) (gone : List ℕ) (own : List ℕ)
    → Keeps first es subs gone → Keeps first (SduSubmitted own ∷ es) (subs ++ own ∷ []) gone
keeps_sdu first es subs gone own k = record {
  some = push_some (kept first es) subs own k.some;
  all = λ none. ap (λ (xs : Sdus). xs ++ own ∷ []) (k.all none);
}

keeps_discard : (first : ℕ) (es : List TakeEvent) (subs : Sdus) (gone : List ℕ) (len : ℕ)
    → Keeps first es subs gone → Keeps first (SduDiscarded ∷ es) subs (gone ++ len ∷ [])
keeps_discard first es subs gone len k = record {
  some = out_some (next_new first es - first) (kept first es) subs k.some;
  all = λ none. absurd (nil_end gone len none);
}

more_gone : (first : ℕ) (es : List TakeEvent) (subs : Sdus) (gone more : List ℕ) → Keeps first es subs gone
    → Keeps first es subs (gone ++ more)
more_gone first es subs gone more k =
    record { some = k.some; all = λ none. k.all (nil_front gone more none) }

no_subs : (first : ℕ) (es : List TakeEvent) (subs : Sdus) (gone : List ℕ) → Keeps first es subs gone
    → Keeps first es (subs ++ []) gone
no_subs first es subs gone k = subst (λ (xs : Sdus). Keeps first es xs gone) (sym (append-nil subs)) k

-- ---- records

keeps_event : (from : Side) (l first : ℕ) (side : Side) (event : Event) (es : List TakeEvent)
    (subs : Sdus) (gone : List ℕ) → Keeps first es subs gone
    → Keeps first (record_tells from l (records.Of side event) ++ es) subs
    (gone ++ discards_on l (event_of from (records.Of side event)))
keeps_event from l first side (Take lcid (Some count) len) es subs gone k =
    by (is_same from side) (lcid == l)
  where
    by : (b c : Bool) → Keeps first ((if b then (if c then PduTaken count ∷ [] else []) else []) ++ es) subs
        (gone ++ discards_on l (event_of from (records.Of side (Take lcid (Some count) len))))
    by true true = more_gone first (PduTaken count ∷ es) subs gone
        (discards_on l (event_of from (records.Of side (Take lcid (Some count) len))))
        (record { some = k.some; all = k.all })
    by true false = more_gone first es subs gone
        (discards_on l (event_of from (records.Of side (Take lcid (Some count) len)))) k
    by false c = more_gone first es subs gone
        (discards_on l (event_of from (records.Of side (Take lcid (Some count) len)))) k
keeps_event from l first side (Discard lcid len) es subs gone k =
    by (is_same from side) (lcid == l) refl
  where
    by : (b c : Bool) → (lcid == l) ≡ c
        → Keeps first ((if b then (if c then SduDiscarded ∷ [] else []) else []) ++ es) subs
        (gone ++ discards_on l (if b && true then Discard lcid len ∷ [] else []))
    by true true e =
        subst (λ (d : Bool). Keeps first (SduDiscarded ∷ es) subs (gone ++ ((if d then len ∷ [] else []) ++ [])))
        (sym e) (keeps_discard first es subs gone len k)
    by true false e = more_gone first es subs gone (discards_on l (Discard lcid len ∷ [])) k
    by false c e = more_gone first es subs gone [] k
keeps_event from l first side event es subs gone k = by (is_same from side)
  where
    by : (b : Bool) → Keeps first ((if b then [] else []) ++ es) subs
        (gone ++ discards_on l (event_of from (records.Of side event)))
    by true = more_gone first es subs gone (discards_on l (event_of from (records.Of side event))) k
    by false = more_gone first es subs gone (discards_on l (event_of from (records.Of side event))) k

none_looped : (side : Side) (l : ℕ) (one : Record) → is_looped l one ≡ false → looped_at side l (one ∷ []) ≡ []
none_looped Nb l one e = refl
none_looped Ue l one e = ap (λ (b : Bool). map sdu_of (cond b (one ∷ []) [])) e

keeps_loop : (from : Side) (l first lcid : ℕ) (octets : List ℕ) (es : List TakeEvent) (subs : Sdus) (gone : List ℕ)
    → Keeps first es subs gone
    → Keeps first (record_tells from l (records.Looped lcid octets) ++ es)
    (subs ++ looped_at from l (records.Looped lcid octets ∷ [])) gone
keeps_loop Nb l first lcid octets es subs gone k = no_subs first es subs gone k
keeps_loop Ue l first lcid octets es subs gone k = by (lcid == l)
  where
    by : (b : Bool) → Keeps first ((if b then SduSubmitted octets ∷ [] else []) ++ es)
        (subs ++ map sdu_of (cond b (records.Looped lcid octets ∷ []) [])) gone
    by true = keeps_sdu first es subs gone octets k
    by false = no_subs first es subs gone k

plain_record : (from : Side) (l first : ℕ) (one : Record) (es : List TakeEvent) (subs : Sdus) (gone more : List ℕ)
    → looped_at from l (one ∷ []) ≡ [] → Keeps first es subs (gone ++ more)
    → Keeps first es (subs ++ looped_at from l (one ∷ [])) (gone ++ more)
plain_record from l first one es subs gone more none k =
    subst (λ (xs : Sdus). Keeps first es (subs ++ xs) (gone ++ more)) (sym none)
    (no_subs first es subs (gone ++ more) k)

keeps_record : (from : Side) (l first : ℕ) (one : Record) (es : List TakeEvent) (subs : Sdus) (gone : List ℕ)
    → Keeps first es subs gone
    → Keeps first (record_tells from l one ++ es) (subs ++ looped_at from l (one ∷ []))
    (gone ++ discards_on l (event_of from one))
keeps_record from l first (records.Of side event) es subs gone k =
    plain_record from l first (records.Of side event) (record_tells from l (records.Of side event) ++ es) subs gone
    (discards_on l (event_of from (records.Of side event))) (none_looped from l (records.Of side event) refl)
    (keeps_event from l first side event es subs gone k)
keeps_record from l first (records.Looped lcid octets) es subs gone k =
    more_gone first (record_tells from l (records.Looped lcid octets) ++ es)
    (subs ++ looped_at from l (records.Looped lcid octets ∷ [])) gone []
    (keeps_loop from l first lcid octets es subs gone k)
keeps_record Nb l first one es subs gone k =
    plain_record Nb l first one es subs gone [] (none_looped Nb l one refl) (more_gone first es subs gone [] k)
keeps_record Ue l first one es subs gone k =
    plain_record Ue l first one es subs gone [] (none_looped Ue l one refl) (more_gone first es subs gone [] k)

loops_on : (side : Side) (l : ℕ) (one : Record) (told : List Record)
    → looped_at side l (one ∷ []) ++ looped_at side l told ≡ looped_at side l (one ∷ told)
loops_on Nb l one told = refl
loops_on Ue l one told = by (is_looped l one)
  where
    by : (b : Bool) → map sdu_of (cond b (one ∷ []) []) ++ map sdu_of (filter (is_looped l) told)
        ≡ map sdu_of (cond b (one ∷ filter (is_looped l) told) (filter (is_looped l) told))
    by true = refl
    by false = refl

gone_on : (from : Side) (l : ℕ) (one : Record) (told : List Record)
    → discards_on l (event_of from one) ++ discards_on l (events_of from told)
    ≡ discards_on l (events_of from (one ∷ told))
gone_on from l one told = sym (flat_map-append (discards_in l) (event_of from one) (events_of from told))

no_loop_told : (from : Side) (l : ℕ) → looped_at from l [] ≡ []
no_loop_told Nb l = refl
no_loop_told Ue l = refl

keeps_records : (from : Side) (l first : ℕ) (told : List Record) (es : List TakeEvent) (subs : Sdus) (gone : List ℕ)
    → Keeps first es subs gone
    → Keeps first (records_tell from l told es) (subs ++ looped_at from l told)
    (gone ++ discards_on l (events_of from told))
keeps_records from l first [] es subs gone k =
    subst (λ (xs : Sdus). Keeps first es (subs ++ xs) (gone ++ [])) (sym (no_loop_told from l))
    (no_subs first es subs (gone ++ []) (more_gone first es subs gone [] k))
keeps_records from l first (one ∷ told) es subs gone k =
    subst (λ (ds : List ℕ). Keeps first (records_tell from l (one ∷ told) es)
    (subs ++ looped_at from l (one ∷ told)) ds)
    (append_assoc gone (discards_on l (event_of from one)) (discards_on l (events_of from told))
    ∙ ap (λ (ds : List ℕ). gone ++ ds) (gone_on from l one told))
    (subst (λ (xs : Sdus). Keeps first (records_tell from l (one ∷ told) es) xs
    ((gone ++ discards_on l (event_of from one)) ++ discards_on l (events_of from told)))
    (append_assoc subs (looped_at from l (one ∷ [])) (looped_at from l told)
    ∙ ap (λ (xs : Sdus). subs ++ xs) (loops_on from l one told))
    (keeps_records from l first told (record_tells from l one ++ es)
    (subs ++ looped_at from l (one ∷ [])) (gone ++ discards_on l (event_of from one))
    (keeps_record from l first one es subs gone k)))

-- ---- groups

keeps_own : (from : Side) (l first : ℕ) (line : Line) (told : List Record) (es : List TakeEvent) (subs : Sdus)
    (gone : List ℕ) → Keeps first es subs gone
    → Keeps first (map SduSubmitted (handed_in from l (part_of_line line) told) ++ es)
    (subs ++ handed_in from l (part_of_line line) told) gone
keeps_own from l first (lines.Submit side lcid octets) told es subs gone k =
    by (is_same side from && (not (is_refused_at_once side lcid told) && (lcid == l)))
  where
    by : (b : Bool) → Keeps first (map SduSubmitted (if b then octets ∷ [] else []) ++ es)
        (subs ++ (if b then octets ∷ [] else [])) gone
    by true = keeps_sdu first es subs gone octets k
    by false = no_subs first es subs gone k
keeps_own from l first line told es subs gone k = no_subs first es subs gone k

history_events : (from : Side) (xs ys : List Record)
    → events_of from (xs ++ ys) ≡ events_of from xs ++ events_of from ys
history_events from [] ys = refl
history_events from (x ∷ xs) ys =
    ap (λ (es : List Event). event_of from x ++ es) (history_events from xs ys)
    ∙ sym (append_assoc (event_of from x) (events_of from xs) (events_of from ys))

gone_group : (from : Side) (l : ℕ) (g : Group) (past : List Group)
    → discarded from l past ++ discards_on l (events_of from g.events) ≡ discarded from l (g ∷ past)
gone_group from l g past =
    sym (ap (discards_on l) (history_events from (history past) (records.Line g.number g.line ∷ g.events))
    ∙ flat_map-append (discards_in l) (events_of from (history past)) (events_of from g.events))

keeps_groups : (from : Side) (l first : ℕ) (past : List Group)
    → Keeps first (sdus_told from l past) (submitted from l past) (discarded from l past)
keeps_groups from l first [] = record { some = tt; all = λ none. refl }
keeps_groups from l first (g ∷ past) =
    let handed = handed_in from l (part_of_line g.line) g.events in
    subst (λ (ds : List ℕ). Keeps first (sdus_told from l (g ∷ past)) (submitted from l (g ∷ past)) ds)
    (gone_group from l g past)
    (subst (λ (xs : Sdus). Keeps first (sdus_told from l (g ∷ past)) xs
    (discarded from l past ++ discards_on l (events_of from g.events)))
    (append_assoc (submitted from l past) handed (looped_at from l g.events))
    (keeps_records from l first g.events (map SduSubmitted handed ++ sdus_told from l past)
    (submitted from l past ++ handed) (discarded from l past)
    (keeps_own from l first g.line g.events (sdus_told from l past) (submitted from l past) (discarded from l past)
    (keeps_groups from l first past))))

-- ---- what went up

front_of : (n : ℕ) (ups xs : Sdus) → ups ≡ take n xs → AreFirstSdus ups xs
front_of n ups xs e = record {
  rest = drop n xs;
  is = sym (take-append-drop n xs) ∙ ap (λ (ys : Sdus). ys ++ drop n xs) (sym e);
}

comes : (from : Side) (l first : ℕ) (past : List Group) (es : List LifeEvent)
    → IsDelivered first es (sdus_told from l past) (delivered (other from) l past) → ComeInOrder from l past
comes from l first past es d =
    let k = keeps_groups from l first past in
    let front = front_of (d.next - first) (delivered (other from) l past) (kept first (sdus_told from l past)) d.is in
    record {
      in_order =
          front_some (delivered (other from) l past) front.rest (submitted from l past)
          (subst (λ (xs : Sdus). IsSubsequence xs (submitted from l past)) front.is k.some);
      none_left_out = λ none. record { rest = front.rest; is = sym (k.all none) ∙ front.is };
    }

pub come_in_order : RightComeInOrder
come_in_order may_take [] h from l first low e = absurd cc
come_in_order may_take (now ∷ past) h from l first low e =
    by (first_by (bearer_on l (now ∷ past))) e (h.0 from l low)
  where
    by : (o : Option ℕ) → o ≡ Some first
        → MatchOption o (Unit {0}) (λ first. IsDelivered first (flows_told may_take (now ∷ past) from l)
        (sdus_told from l (since_bearer l (now ∷ past))) (delivered (other from) l (since_bearer l (now ∷ past))))
        → ComeInOrder from l (since_bearer l (now ∷ past))
    by None f d = absurd cc
    by (Some own) f d = comes from l own (since_bearer l (now ∷ past)) (flows_told may_take (now ∷ past) from l) d

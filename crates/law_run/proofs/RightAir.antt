-- What every journal tells of the air is right.
use Rattle.std.proofs.Common.{◌≡◌, ◌≤◌, ℕ, zero, suc, ◌+◌, Bool, true, false, Option, Some, None, List, [], ◌∷◌}
use Rattle.std.proofs.Common.{◌++◌, length, map, ◌⊎◌, inl, inr, refl, ap, sym, subst, ◌∙◌, arith, length-append}
use Rattle.std.proofs.Common.{append-nil}
use Rattle.std.proofs.lemmas.Bool.{cases_eq}
use Rattle.std.proofs.lemmas.List.Elements.{filter-append}
use Rattle.std.specs.List.{filter, AllByRecursion}
use Rattle.air_record.specs.declared.line.Fate.TheVariants.{Ok, Miss}
use Rattle.air_record.specs.declared.line.Line.{Line}
use Rattle.air_record.specs.declared.line.Outcome.{Outcome}
use Rattle.air_record.specs.declared.line.Line.TheVariants as lines
use Rattle.air_record.specs.declared.record.Arrived.{Arrived}
use Rattle.air_record.specs.declared.record.Arrived.TheVariants as arriveds
use Rattle.air_record.specs.declared.record.Record.{Record}
use Rattle.air_record.specs.declared.record.Record.TheVariants as records
use Rattle.air_record.specs.Outcomes.{missed, intact}
use Rattle.air_text.specs.Groups.{Group}
use Rattle.air_text.specs.Ranges.{IsInRange}
use Rattle.bearer_types.specs.declared.event.Event.{Event}
use Rattle.bearer_types.specs.Lcids.{all_lcids}
use Rattle.bearer_types.specs.Sides.{sent_by, other}
use Rattle.l2_types.specs.declared.event.Clock.{Clock}
use Rattle.l2_types.specs.declared.event.Clock.TheVariants.{Reorder, Prohibit, Poll}
use Rattle.l2_types.specs.declared.side.Side.{Side}
use Rattle.l2_types.specs.declared.side.Side.TheVariants.{Ue, Nb}
use Rattle.law_words.specs.Sequences.{SequencesOf, nothing, just, ◌then◌, ◌or◌, maybe, each}
use Rattle.mac_pdu.specs.Reading.{reading}
use Rattle.pdu_show.specs.declared.kinds.Layout.{Layout}
use Rattle.promises.specs.Air.{is_tti, ttis, MayFly, FliesIntact, InTurn, AreFlown}
use Rattle.promises.specs.Carried.{AreCarried}
use Rattle.promises.specs.Flights.{FliesUp, IsUnanswered}
use Rattle.promises.specs.Heard.{visits_by, visits}
use Rattle.promises.specs.Order.{Channels, EndTells, LoopTells, IsNew, IsAgain, GoesOut, IsHeard, PassesOver}
use Rattle.promises.specs.Order.{Misses, MayPassOver, BothPassOver, TtiTells, DrainTtiTells, ExpiryTells, TimerTells}
use Rattle.promises.specs.Order.{ReceiverTells, ReceiversTell, SenderTells}
use Rattle.promises.specs.Order.{IsRefused}
use Rattle.promises.specs.Parts.{Part, Submits, Passes, Drains, Rests, part_of_line}
use Rattle.promises.specs.Blocks.{kinds}
use Rattle.promises.specs.Records.{is_of_air}
use Rattle.promises.specs.Telling.{SendersTellUnless, RoundTells, DrainTells, LineTells, LinesTell, channels}
use Rattle.promises.specs.RightAir.{FliesInDrain, is_of_time, Ttis, HasItsTtis, BeginsAtZero, AirIsRight}
use Rattle.promises.proofs.ShownBlocks.{AllShown, block_shows}
use Rattle.law_run.proofs.AnyOrder.{in_any_order}
use Rattle.law_run.specs.Order.{KeepsOrder}

abbrev AllZero : List Record → Type 0
AllZero told = AllByRecursion BeginsAtZero told

zero_append : (a b : List Record) → AllZero a → AllZero b → AllZero (a ++ b)
zero_append [] b p q = q
zero_append (one ∷ a) b p q = (p.0, zero_append a b p.1 q)

abbrev Drained : ℕ → ℕ → List Record → Type 0
Drained grant n told = Ttis (FliesInDrain grant n) n told

-- ---- records that begin no TTI and no line, with so many of the air at most

abbrev pub IsPlain : Record → Type 0
IsPlain one = is_of_time one ≡ is_of_air one

pub record Fits (most : ℕ) (told : List Record) : Type 0 where
  pub plain : AllByRecursion IsPlain told
  pub zero_is : AllZero told
  pub few : length (filter is_of_air told) ≤ most
  pub no_ttis : filter is_tti told ≡ []

abbrev Fitting : ℕ → SequencesOf Record → Type 0
Fitting most A = (told : List Record) → A told → Fits most told

plain_append : (a b : List Record) → AllByRecursion IsPlain a → AllByRecursion IsPlain b
    → AllByRecursion IsPlain (a ++ b)
plain_append [] b p q = q
plain_append (one ∷ a) b p q = (p.0, plain_append a b p.1 q)

fits_append : (m n : ℕ) (a b : List Record) → Fits m a → Fits n b → Fits (m + n) (a ++ b)
fits_append m n a b p q = record {
  plain = plain_append a b p.plain q.plain;
  zero_is = zero_append a b p.zero_is q.zero_is;
  few = let e = ap (λ (l : List Record). length l) (filter-append is_of_air a b)
      ∙ length-append (filter is_of_air a) (filter is_of_air b) in
      omega (arith, e, p.few, q.few);
  no_ttis = filter-append is_tti a b ∙ ap (λ (l : List Record). l ++ filter is_tti b) p.no_ttis ∙ q.no_ttis;
}

empty_fits : (most : ℕ) → Fits most []
empty_fits most = record { plain = tt; zero_is = tt; few = omega arith; no_ttis = refl }

nothing_fits : (most : ℕ) → Fitting most nothing
nothing_fits most told h = subst (λ (l : List Record). Fits most l) (sym h) (empty_fits most)

then_fits : (m n : ℕ) (A B : SequencesOf Record) → Fitting m A → Fitting n B → Fitting (m + n) (A then B)
then_fits m n A B p q told h =
    subst (λ (l : List Record). Fits (m + n) l) (sym h.told_are)
    (fits_append m n h.first h.second (p h.first h.is_first) (q h.second h.is_second))

or_fits : (m : ℕ) (A B : SequencesOf Record) → Fitting m A → Fitting m B → Fitting m (A or B)
or_fits m A B p q told h = elim h [ inl a ↦ p told a | inr b ↦ q told b ]

each_fits : (f : ℕ → SequencesOf Record) → ((n : ℕ) → Fitting 0 (f n)) → (ns : List ℕ) → Fitting 0 (each f ns)
each_fits f p [] told h = nothing_fits 0 told h
each_fits f p (n ∷ ns) told h = then_fits 0 0 (f n) (each f ns) (p n) (each_fits f p ns) told h

one_fits : (most : ℕ) (told : List Record) (one : Record) → told ≡ one ∷ [] → Fits most (one ∷ []) → Fits most told
one_fits most told one e h = subst (λ (l : List Record). Fits most l) (sym e) h

-- ---- what ends and the loop tell

of_fits : (side : Side) (events : List Event) → Fits 0 (map (records.Of side) events)
of_fits side [] = empty_fits 0
of_fits side (e ∷ events) =
    let h = of_fits side events in
    record { plain = (refl, h.plain); zero_is = (tt, h.zero_is); few = h.few; no_ttis = h.no_ttis }

end_fits : (side : Side) (of : SequencesOf Event) → Fitting 0 (EndTells side of)
end_fits side of told h = subst (λ (l : List Record). Fits 0 l) (sym h.told_is) (of_fits side h.events)

loop_fits : (told : List Record) → LoopTells told → Fits 0 told
loop_fits [] h = empty_fits 0
loop_fits (records.Looped lcid octets ∷ told) h =
    let k = loop_fits told h.1 in
    record { plain = (refl, k.plain); zero_is = (tt, k.zero_is); few = k.few; no_ttis = k.no_ttis }
loop_fits (records.Of side event ∷ told) h =
    let k = loop_fits told h.1 in
    record { plain = (refl, k.plain); zero_is = (tt, k.zero_is); few = k.few; no_ttis = k.no_ttis }
loop_fits (one ∷ told) h = absurd h.0

-- ---- a block

shown_fits : (told : List Record) → AllShown told → Fits 0 told
shown_fits [] h = empty_fits 0
shown_fits (records.Line number line ∷ told) h = let e = h.0 in absurd cc
shown_fits (records.Tti t ∷ told) h = let e = h.0 in absurd cc
shown_fits (records.Sleep ∷ told) h = let e = h.0 in absurd cc
shown_fits (records.Block d process fresh version octets ∷ told) h = let e = h.0 in absurd cc
shown_fits (records.Air d what heard ∷ told) h = let e = h.0 in absurd cc
shown_fits (one ∷ told) h =
    let k = shown_fits told h.1 in
    record { plain = (refl, k.plain); zero_is = (tt, k.zero_is); few = k.few; no_ttis = k.no_ttis }

new_fits : (side : Side) (t : ℕ) (kinds : List (Option Layout)) (octets : List ℕ)
    → Fitting 1 (IsNew side t kinds octets)
new_fits side t kinds octets told h =
    let k = shown_fits _ (block_shows kinds (reading (sent_by side) octets)) in
    subst (λ (l : List Record). Fits 1 l) (sym h)
    (record {
      plain = (refl, k.plain);
      zero_is = (refl, k.zero_is);
      few = omega (arith, k.few);
      no_ttis = k.no_ttis;
    })

again_fits : (side : Side) (t : ℕ) (octets : List ℕ) → Fitting 1 (IsAgain side t octets)
again_fits side t octets told h =
    one_fits 1 told _ h.told_is (record { plain = (refl, tt); zero_is = (tt, tt); few = omega arith; no_ttis = refl })

goes_fits : (side : Side) (t : ℕ) (kinds : List (Option Layout)) (c : Channels) (octets : List ℕ)
    → Fitting 1 (GoesOut side t kinds c octets)
goes_fits side t kinds c octets =
    or_fits 1 _ _ (then_fits 0 1 _ _ (end_fits side _) (new_fits side t kinds octets)) (again_fits side t octets)

heard_fits : (side : Side) (what : Arrived) (c : Channels) (octets : List ℕ) → Fitting 0 (IsHeard side what c octets)
heard_fits side arriveds.Got c octets = end_fits side _
heard_fits side arriveds.Dup c octets = nothing_fits 0
heard_fits side arriveds.Bad c octets = nothing_fits 0
heard_fits side arriveds.Nothing c octets = nothing_fits 0

air_fits : (side : Side) (what : Arrived) (heard : Option Bool)
    → Fitting 1 (just (records.Air (sent_by side) what heard))
air_fits side what heard told h =
    one_fits 1 told _ h (record { plain = (refl, tt); zero_is = (tt, tt); few = omega arith; no_ttis = refl })

passes_fits : (side : Side) (t : ℕ) (kinds : List (Option Layout)) (c : Side → Channels)
    → Fitting 2 (PassesOver side t kinds c)
passes_fits side t kinds c told h =
    then_fits 1 1 _ _ (goes_fits side t kinds (c side) h.octets)
    (then_fits 1 0 _ _ (air_fits side h.what (Some h.feedback))
    (heard_fits (other side) h.what (c (other side)) h.octets)) told h.in_turn

misses_fits : (side : Side) → Fitting 2 (Misses side)
misses_fits Nb told h = nothing_fits 2 told h
misses_fits Ue told h =
    let k = air_fits Ue arriveds.Nothing None told h in
    record { plain = k.plain; zero_is = k.zero_is; few = omega (arith, k.few); no_ttis = k.no_ttis }

may_fits : (side : Side) (t : ℕ) (kinds : List (Option Layout)) (c : Side → Channels)
    → Fitting 2 (MayPassOver side t kinds c)
may_fits side t kinds c =
    or_fits 2 _ _ (nothing_fits 2) (or_fits 2 _ _ (misses_fits side) (passes_fits side t kinds c))

both_fits : (t : ℕ) (kinds : List (Option Layout)) (c : Side → Channels) → Fitting 4 (BothPassOver t kinds c)
both_fits t kinds c =
    then_fits 2 2 _ _ (may_fits Nb t kinds c) (then_fits 0 2 _ _ loop_fits (may_fits Ue t kinds c))

sleep_fits : Fitting 1 (maybe (just records.Sleep))
sleep_fits = or_fits 1 _ _ (nothing_fits 1)
    (λ told h. one_fits 1 told _ h
    (record { plain = (refl, tt); zero_is = (tt, tt); few = omega arith; no_ttis = refl }))

-- ---- timers, and lines with no TTI

expiry_fits : (side : Side) (lcid : ℕ) (clock : Clock) → Fitting 0 (ExpiryTells side lcid clock)
expiry_fits side lcid clock = then_fits 0 0 _ _ (end_fits side _) loop_fits

timer_fits : (side : Side) (lcid : ℕ) (clock : Clock) → Fitting 0 (TimerTells side lcid clock)
timer_fits side lcid clock = or_fits 0 _ _ (nothing_fits 0) (expiry_fits side lcid clock)

receivers_fit : Fitting 0 ReceiversTell
receivers_fit =
    then_fits 0 0 _ _
    (each_fits (ReceiverTells Nb)
    (λ n. then_fits 0 0 _ _ (timer_fits Nb n Reorder) (timer_fits Nb n Prohibit)) all_lcids)
    (each_fits (ReceiverTells Ue)
    (λ n. then_fits 0 0 _ _ (timer_fits Ue n Reorder) (timer_fits Ue n Prohibit)) all_lcids)

senders_fit : (b : Bool) → Fitting 0 (SendersTellUnless b)
senders_fit true = nothing_fits 0
senders_fit false =
    then_fits 0 0 _ _ (each_fits (SenderTells Nb) (λ n. timer_fits Nb n Poll) all_lcids)
    (each_fits (SenderTells Ue) (λ n. timer_fits Ue n Poll) all_lcids)

refused_fits : (side : Side) (lcid : ℕ) → Fitting 0 (IsRefused side lcid)
refused_fits side lcid told h =
    one_fits 0 told _ h.told_is (record { plain = (refl, tt); zero_is = (tt, tt); few = omega arith; no_ttis = refl })

-- ---- of time what is of the air

time_of_air : (l : List Record) → AllByRecursion IsPlain l → filter is_of_time l ≡ filter is_of_air l
time_of_air [] p = refl
time_of_air (one ∷ l) p = rw (p.0, time_of_air l p.1) refl

rests_right : (most : ℕ) (events : List Record) → Fits most events → filter is_of_air events ≡ []
    → filter is_of_time events ≡ []
rests_right most events h e = time_of_air events h.plain ∙ e

-- ---- a TTI

abbrev Opened : ℕ → ℕ → List Record → Type 0
Opened most t told = (just (records.Tti t) then Fits most) told

opened_is : (most t : ℕ) (told : List Record) (h : Opened most t told) → told ≡ records.Tti t ∷ h.second
opened_is most t told h = h.told_are ∙ ap (λ (l : List Record). l ++ h.second) h.is_first

tti_opens : (t : ℕ) (kinds : List (Option Layout)) (c : Side → Channels) (told : List Record)
    → TtiTells t kinds c told → Opened 5 t told
tti_opens t kinds c told h = record {
  first = h.first;
  second = h.second;
  told_are = h.told_are;
  is_first = h.is_first;
  is_second =
      then_fits 1 4 _ _ sleep_fits
      (then_fits 0 4 _ _ (end_fits Nb _)
      (then_fits 0 4 _ _ (end_fits Ue _) (then_fits 0 4 _ _ loop_fits (both_fits t kinds c)))) h.second h.is_second;
}

drain_tti_opens : (t : ℕ) (kinds : List (Option Layout)) (c : Side → Channels) (told : List Record)
    → DrainTtiTells t kinds c told → Opened 4 t told
drain_tti_opens t kinds c told h = record {
  first = h.first;
  second = h.second;
  told_are = h.told_are;
  is_first = h.is_first;
  is_second = both_fits t kinds c h.second h.is_second;
}

append_assoc_at : (a b c : List Record) → (a ++ b) ++ c ≡ a ++ (b ++ c)
append_assoc_at [] b c = refl
append_assoc_at (one ∷ a) b c = ap (λ (l : List Record). one ∷ l) (append_assoc_at a b c)

round_opens : (t : ℕ) (kinds : List (Option Layout)) (c : Side → Channels) (told : List Record)
    → RoundTells t kinds c told → Opened 4 t told
round_opens t kinds c told h =
    let o = drain_tti_opens t kinds c h.tti h.tti_is in
    record {
      first = o.first;
      second = o.second ++ h.timers;
      told_are = h.told_is ∙ ap (λ (l : List Record). l ++ h.timers) o.told_are
          ∙ append_assoc_at o.first o.second h.timers;
      is_first = o.is_first;
      is_second = fits_append 4 0 o.second h.timers o.is_second
          (then_fits 0 0 _ _ receivers_fit (senders_fit _) h.timers h.timers_are);
    }

-- ---- TTIs in turn

turn_map : (A B : ℕ → SequencesOf Record) → ((n : ℕ) (l : List Record) → A n l → B n l) → (n t : ℕ) (told : List Record)
    → InTurn A t n told → InTurn B t n told
turn_map A B f zero t told h = h
turn_map A B f (suc n) t told h = record {
  first = h.first;
  second = h.second;
  told_are = h.told_are;
  is_first = f t h.first h.is_first;
  is_second = turn_map A B f n (t + 1) h.second h.is_second;
}

turn_append : (A : ℕ → SequencesOf Record) (n m t : ℕ) (a b : List Record) → InTurn A t n a → InTurn A (t + n) m b
    → InTurn A t (n + m) (a ++ b)
turn_append A zero m t a b h k =
    let at : t + 0 ≡ t = omega arith in
    let count : 0 + m ≡ m = omega arith in
    subst (λ (l : List Record). InTurn A t (0 + m) (l ++ b)) (sym h)
    (subst (λ (x : ℕ). InTurn A t x b) (sym count) (subst (λ (x : ℕ). InTurn A x m b) at k))
turn_append A (suc n) m t a b h k =
    let at : t + suc n ≡ (t + 1) + n = omega arith in
    let count : suc n + m ≡ suc (n + m) = omega arith in
    subst (λ (x : ℕ). InTurn A t x (a ++ b)) (sym count)
    (record {
      first = h.first;
      second = h.second ++ b;
      told_are = ap (λ (l : List Record). l ++ b) h.told_are ∙ append_assoc_at h.first h.second b;
      is_first = h.is_first;
      is_second = turn_append A n m (t + 1) h.second b h.is_second (subst (λ (x : ℕ). InTurn A x m b) at k);
    })

-- so many numbers, and so many records of the air at most
abbrev total : ℕ → ℕ → ℕ
total each' zero = 0
total each' (suc n) = each' + total each' n

total_none : (n : ℕ) → total 0 n ≡ 0
total_none zero = refl
total_none (suc n) = let e = total_none n in omega arith

turn_counts : (n t : ℕ) (told : List Record) → InTurn (Opened 4) t n told
    → (length (filter is_tti told) ≡ n) × (length (filter is_of_air told) ≤ total 4 n)
turn_counts zero t told h = (
  ap (λ (l : List Record). length (filter is_tti l)) h,
  let e = ap (λ (l : List Record). length (filter is_of_air l)) h in omega arith,
)
turn_counts (suc n) t told h =
    let rest = turn_counts n (t + 1) h.second h.is_second in
    let is : told ≡ records.Tti t ∷ (h.is_first.second ++ h.second) = h.told_are
    ∙ ap (λ (l : List Record). l ++ h.second) (opened_is 4 t h.first h.is_first) in
    let numbers = ap (λ (l : List Record). length (filter is_tti l)) is
    ∙ ap (λ (l : List Record). suc (length l))
    (filter-append is_tti h.is_first.second h.second
    ∙ ap (λ (l : List Record). l ++ filter is_tti h.second) h.is_first.is_second.no_ttis) in
    let airs = ap (λ (l : List Record). length (filter is_of_air l)) is
    ∙ ap (λ (l : List Record). length l) (filter-append is_of_air h.is_first.second h.second)
    ∙ length-append (filter is_of_air h.is_first.second) (filter is_of_air h.second) in
    (numbers ∙ ap suc rest.0, omega (arith, airs, rest.1, h.is_first.is_second.few))

turn_zero : (n t : ℕ) (told : List Record) → InTurn (Opened 4) t n told → AllZero told
turn_zero zero t told h = subst (λ (l : List Record). AllZero l) (sym h) tt
turn_zero (suc n) t told h =
    subst (λ (l : List Record). AllZero l)
    (sym (h.told_are ∙ ap (λ (l : List Record). l ++ h.second) (opened_is 4 t h.first h.is_first))) (
      tt,
      zero_append h.is_first.second h.second h.is_first.is_second.zero_is
          (turn_zero n (t + 1) h.second h.is_second),
    )

-- ---- intact blocks have four records a TTI, or none

abbrev SizeIs : ℕ → ℕ → Type 0
SizeIs grant size = (t : ℕ) (flown : List Record) → FliesIntact t grant flown → length flown ≡ size

no_size : (grant : ℕ) → grant ≡ 0 → SizeIs grant 0
no_size grant none t flown h =
    ap (λ (l : List Record). length l)
    (h.told_is ∙ ap (λ (l : List Record). l ++ h.upward) (h.down_is.none none) ∙ h.up_is.none none)

up_size : (t : ℕ) (flown : List Record)
    → FliesUp t (missed false intact) flown ⊎ IsUnanswered (missed false intact) flown
    → length flown ≡ 2
up_size t flown h = elim h [
  | inl f ↦ ap (λ (l : List Record). length l) f.flown_is
  | inr u ↦ let e : Ok ≡ Miss = u.missed in absurd cc
]

four_size : (grant : ℕ) → 1 ≤ grant → SizeIs grant 4
four_size grant some t flown h =
    let down = ap (λ (l : List Record). length l) (h.down_is.one some).flown_is in
    let up = up_size t h.upward (h.up_is.one some) in
    let all = ap (λ (l : List Record). length l) h.told_is ∙ length-append h.downward h.upward in
    omega (arith, down, up, all)

turn_size : (grant size n t : ℕ) (told : List Record) → SizeIs grant size → InTurn (λ m. FliesIntact m grant) t n told
    → length told ≡ total size n
turn_size grant size zero t told s h = ap (λ (l : List Record). length l) h
turn_size grant size (suc n) t told s h =
    let one = s t h.first h.is_first in
    let rest = turn_size grant size n (t + 1) h.second s h.is_second in
    let all = ap (λ (l : List Record). length l) h.told_are ∙ length-append h.first h.second in
    omega (arith, one, rest, all)

same_cut : (a b c d : List Record) → a ++ b ≡ c ++ d → length a ≡ length c → (a ≡ c) × (b ≡ d)
same_cut [] b [] d e l = (refl, e)
same_cut [] b (y ∷ c) d e l = absurd (omega arith)
same_cut (x ∷ a) b [] d e l = absurd (omega arith)
same_cut (x ∷ a) b (y ∷ c) d e l =
    let head : x ≡ y = cc in
    let rest : a ++ b ≡ c ++ d = cc in
    let less : length a ≡ length c = omega arith in
    let k = same_cut a b c d rest less in
    (ap (λ (z : Record). z ∷ a) head ∙ ap (λ (z : List Record). y ∷ z) k.0, k.1)

-- so each TTI has its own
drains_so : (grant size n t : ℕ) (told : List Record) → SizeIs grant size → (size ≡ 0) ⊎ (size ≡ 4)
    → InTurn (Opened 4) t n told → InTurn (λ m. FliesIntact m grant) t n (filter is_of_air told)
    → InTurn (Drained grant) t n (filter is_of_time told)
drains_so grant size zero t told s either h flown = ap (filter is_of_time) h
drains_so grant size (suc n) t told s either h flown =
    let x = h.is_first.second in
    let is : told ≡ records.Tti t ∷ (x ++ h.second) = h.told_are
    ∙ ap (λ (l : List Record). l ++ h.second) (opened_is 4 t h.first h.is_first) in
    let fits = h.is_first.is_second in
    let airs : filter is_of_air told ≡ filter is_of_air x ++ filter is_of_air h.second =
    ap (filter is_of_air) is ∙ filter-append is_of_air x h.second in
    let cut : filter is_of_air x ++ filter is_of_air h.second ≡ flown.first ++ flown.second =
    sym airs ∙ flown.told_are in
    let sizes : length (filter is_of_air x) + length (filter is_of_air h.second)
    ≡ length flown.first + length flown.second =
    sym (length-append (filter is_of_air x) (filter is_of_air h.second))
    ∙ ap (λ (l : List Record). length l) cut ∙ length-append flown.first flown.second in
    let one = s t flown.first flown.is_first in
    let rest_size = turn_size grant size n (t + 1) flown.second s flown.is_second in
    let few = (turn_counts n (t + 1) h.second h.is_second).1 in
    let same : length (filter is_of_air x) ≡ length flown.first = elim either [
      | inl none ↦
          let all = rest_size ∙ ap (λ (z : ℕ). total z n) none ∙ total_none n in
          omega (arith, all, one, none, sizes)
      | inr four ↦
          let all = rest_size ∙ ap (λ (z : ℕ). total z n) four in
          omega (arith, all, one, four, sizes, few, fits.few)
    ] in
    let both = same_cut (filter is_of_air x) (filter is_of_air h.second) flown.first flown.second cut same in
    record {
      first = records.Tti t ∷ filter is_of_air x;
      second = filter is_of_time h.second;
      told_are = ap (filter is_of_time) is
          ∙ ap (λ (l : List Record). records.Tti t ∷ l)
          (filter-append is_of_time x h.second
          ∙ ap (λ (l : List Record). l ++ filter is_of_time h.second) (time_of_air x fits.plain));
      is_first = record {
        first = records.Tti t ∷ [];
        second = filter is_of_air x;
        told_are = refl;
        is_first = refl;
        is_second = in_any_order false t grant intact grant intact (filter is_of_air x)
            (subst (λ (l : List Record). FliesIntact t grant l) (sym both.0) flown.is_first);
      };
      is_second = drains_so grant size n (t + 1) h.second s either h.is_second
          (subst (λ (l : List Record). InTurn (λ m. FliesIntact m grant) (t + 1) n l) (sym both.1) flown.is_second);
    }

sized_drain : (grant n t : ℕ) (told : List Record) → InTurn (Opened 4) t n told
    → InTurn (λ m. FliesIntact m grant) t n (filter is_of_air told)
    → InTurn (Drained grant) t n (filter is_of_time told)
sized_drain grant n t told h flown = elim (cases_eq grant 0) [
  | inl none ↦ drains_so grant 0 n t told (no_size grant none) (inl refl) h flown
  | inr other ↦ drains_so grant 4 n t told (four_size grant (omega arith)) (inr refl) h flown
]

-- ---- lines

time_end : (rounds : ℕ) → filter is_of_time (records.Drained rounds ∷ []) ≡ []
time_end rounds = refl

air_end : (rounds : ℕ) → filter is_of_air (records.Drained rounds ∷ []) ≡ []
air_end rounds = refl

tti_end : (rounds : ℕ) → filter is_tti (records.Drained rounds ∷ []) ≡ []
tti_end rounds = refl

zero_end : (rounds : ℕ) → AllZero (records.Drained rounds ∷ [])
zero_end rounds = (tt, tt)

body_of : (test : Record → Bool) (told body last : List Record) → told ≡ body ++ last → filter test last ≡ []
    → filter test told ≡ filter test body
body_of test told body last e none =
    ap (filter test) e ∙ filter-append test body last
    ∙ ap (λ (l : List Record). filter test body ++ l) none ∙ append-nil (filter test body)

record LineRight (t : ℕ) (p : Part) (events : List Record) : Type 0 where
  ttis_are : HasItsTtis t p (filter is_of_time events)
  zero_is : AllZero events

tti_right : (t up_grant down_grant : ℕ) (up down : Outcome) (kinds : List (Option Layout)) (c : Side → Channels)
    (events : List Record) → TtiTells t kinds c events
    → AreFlown t (Passes up_grant up down_grant down) events
    → LineRight t (Passes up_grant up down_grant down) events
tti_right t up_grant down_grant up down kinds c events h flown =
    let o = tti_opens t kinds c events h in
    let is = opened_is 5 t events o in
    let flies = subst (λ (l : List Record). MayFly t up_grant up down_grant down l) (ap (filter is_of_air) is) flown in
    record {
      ttis_are = record {
        first = records.Tti t ∷ [];
        second = filter is_of_air o.second;
        told_are = ap (filter is_of_time) is
            ∙ ap (λ (l : List Record). records.Tti t ∷ l) (time_of_air o.second o.is_second.plain);
        is_first = refl;
        is_second = (
          flies.asleep,
          in_any_order flies.asleep t up_grant up down_grant down (filter is_of_air o.second) flies.flies,
        );
      };
      zero_is = subst (λ (l : List Record). AllZero l) (sym is) (tt, o.is_second.zero_is);
    }

drain_right : (t grant : ℕ) (kinds : List (Option Layout)) (c : Side → Channels) (events : List Record)
    → DrainTells t kinds c events → AreFlown t (Drains grant) events → LineRight t (Drains grant) events
drain_right t grant kinds c events h flown =
    let a = h.in_turn.first in
    let b = h.in_turn.is_second.first in
    let last : List Record = records.Drained h.rounds ∷ [] in
    let n = 8 + h.rounds in
    let is : events ≡ (a ++ b) ++ last = h.in_turn.told_are
    ∙ ap (λ (l : List Record). a ++ l)
    (h.in_turn.is_second.told_are ∙ ap (λ (l : List Record). b ++ l) h.in_turn.is_second.is_second)
    ∙ sym (append_assoc_at a b last) in
    let opened : InTurn (Opened 4) t n (a ++ b) =
    turn_append (Opened 4) 8 h.rounds t a b
    (turn_map (λ m. DrainTtiTells m kinds c) (Opened 4)
    (λ m l k. drain_tti_opens m kinds c l k) 8 t a h.in_turn.is_first)
    (turn_map (λ m. RoundTells m kinds c) (Opened 4) (λ m l k. round_opens m kinds c l k) h.rounds (t + 8) b
    h.in_turn.is_second.is_first) in
    let times = body_of is_of_time events (a ++ b) last is (time_end h.rounds) in
    let airs = body_of is_of_air events (a ++ b) last is (air_end h.rounds) in
    let numbers = body_of is_tti events (a ++ b) last is (tti_end h.rounds) in
    let count : length (filter is_tti events) ≡ n =
    ap (λ (l : List Record). length l) numbers ∙ (turn_counts n t (a ++ b) opened).0 in
    let flown' : InTurn (λ m. FliesIntact m grant) t n (filter is_of_air (a ++ b)) =
    subst (λ (l : List Record). InTurn (λ m. FliesIntact m grant) t n l) airs
    (subst (λ (x : ℕ). InTurn (λ m. FliesIntact m grant) t x (filter is_of_air events)) count flown) in
    record {
      ttis_are = (
        n,
        subst (λ (l : List Record). InTurn (Drained grant) t n l) (sym times) (sized_drain grant n t
            (a ++ b) opened flown'),
      );
      zero_is = subst (λ (l : List Record). AllZero l) (sym is)
          (zero_append (a ++ b) last (turn_zero n t (a ++ b) opened) (zero_end h.rounds));
    }

rest_line : (most t : ℕ) (p : Part) (events : List Record) → Fits most events → filter is_of_air events ≡ []
    → (filter is_of_time events ≡ [] → HasItsTtis t p (filter is_of_time events)) → LineRight t p events
rest_line most t p events h none f =
    record { ttis_are = f (rests_right most events h none); zero_is = h.zero_is }

line_right : (line : Line) (t : ℕ) (kinds : List (Option Layout)) (c : Side → Channels) (events : List Record)
    → LineTells t kinds c line events → AreFlown t (part_of_line line) events
    → LineRight t (part_of_line line) events
line_right (lines.Submit side lcid octets) t kinds c events h flown =
    rest_line 0 t (Submits side lcid octets) events
    (or_fits 0 _ _ (nothing_fits 0) (refused_fits side lcid) events h) flown (λ e. e)
line_right (lines.Tti up_grant up down_grant down) t kinds c events h flown =
    tti_right t up_grant down_grant up down kinds c events h flown
line_right (lines.Drain grant) t kinds c events h flown = drain_right t grant kinds c events h flown
line_right (lines.Expire side lcid clock) t kinds c events h flown =
    rest_line 0 t Rests events (expiry_fits side lcid clock events h) flown (λ e. e)
line_right (lines.Forge side octets) t kinds c events h flown =
    rest_line 0 t Rests events (then_fits 0 0 _ _ (end_fits side _) loop_fits events h) flown (λ e. e)
line_right (lines.Handover user rrc integrity) t kinds c events h flown =
    rest_line 0 t Rests events
    (then_fits 0 0 _ _ (end_fits Nb _) (then_fits 0 0 _ _ (end_fits Ue _) loop_fits) events h) flown (λ e. e)
line_right lines.LoopOff t kinds c events h flown = rest_line 0 t Rests events (loop_fits events h) flown (λ e. e)
line_right (lines.LoopA size) t kinds c events h flown =
    rest_line 0 t Rests events (loop_fits events h) flown (λ e. e)
line_right (lines.LoopB delay) t kinds c events h flown =
    rest_line 0 t Rests events (loop_fits events h) flown (λ e. e)
line_right line t kinds c events h flown = rest_line 0 t Rests events (nothing_fits 0 events h) flown (λ e. e)

-- ---- a block has a visit at least

visits_by_line : (line : Line) (before : ℕ) → IsInRange line → 1 ≤ before → 1 ≤ visits_by line before
visits_by_line (lines.Harq visits) before fits some = fits.some
visits_by_line line before fits some = some

some_visits : (past : List Group) → KeepsOrder past → 1 ≤ visits past
some_visits [] order = omega arith
some_visits (g ∷ past) order =
    visits_by_line g.line (visits past) order.0.in_range (some_visits past order.1)

pub air_is_right : (past : List Group) → KeepsOrder past → LinesTell past → AreCarried past → AirIsRight past
air_is_right [] order tells carried = tt
air_is_right (g ∷ past) order tells carried =
    let l = line_right g.line (ttis past) (kinds past) (λ side. channels past) g.events tells.0
    order.0.of_its_time.flown in (
      record {
        has_visits = some_visits (g ∷ past) order;
        ttis_are = l.ttis_are;
        first_is = l.zero_is;
        is_carried = carried.0;
      },
      air_is_right past order.1 tells.1 carried.1,
    )

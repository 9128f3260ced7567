-- Group by group, blocks that are got are young, so that few new PDUs were told of since each.
use Rattle.std.proofs.Common.{◌≡◌, ◌≤◌, ℕ, zero, suc, ◌+◌, ◌-◌, ◌*◌, ◌%◌, Bool, true, false, List, [], ◌∷◌, ◌++◌}
use Rattle.std.proofs.Common.{length}
use Rattle.std.proofs.Common.{Some, None, refl, ap, sym, ◌∙◌, subst, if◌then◌else◌, arith}
use Rattle.std.specs.Prelude.{cond}
use Rattle.std.specs.List.{filter}
use Rattle.l2_types.specs.declared.side.Side.{Side}
use Rattle.harq.specs.SendHistory.{last_block}
use Rattle.harq.specs.SendHistory as harq
use Rattle.harq.specs.SendHistory.{IsRight as AreResent}
use Rattle.air_record.specs.declared.line.Line.{Line}
use Rattle.air_record.specs.declared.record.Record.{Record}
use Rattle.air_record.specs.declared.record.Record.TheVariants as records
use Rattle.air_text.specs.Groups.{Group, history}
use Rattle.law_words.specs.Sequences.{◌then◌}
use Rattle.promises.specs.Air.{InTurn, is_tti, ttis}
use Rattle.promises.specs.Heard.{Heard, empties, deeds_of, visits}
use Rattle.promises.specs.Parts.{Part, Submits, Passes, Drains, Rests, part_of_line, is_handover}
use Rattle.promises.specs.RightAir.{FliesInDrain, is_of_time, Ttis, HasItsTtis, AirIsRight, GroupIsRight}
use Rattle.journal_air.proofs.Tellings.{AllAir}
use Rattle.promises.specs.FewVisits.{VisitsAreFew}
use Rattle.law_sound.proofs.Flown.{IsTtiTold, Processes, behind, AllResent}
use Rattle.law_sound.proofs.GroupAir.{processes, passes_told, drains_told, behind_line, group_heard}
use Rattle.law_sound.proofs.GroupAir.{none_moved, resent_of}
use Rattle.law_sound.proofs.Pending.{Pending, none_pending, settled, IsUnder}
use Rattle.law_sound.proofs.Young.{Ages, none_aged, all_age, AreYoung, Follows, IsTtiYoung, ttis_young, one_tti_young}
use Rattle.law_sound.proofs.Young.{young_filtered, age_filtered}

-- ---- how many TTIs a group has

abbrev many : List Record → ℕ
many told = length (filter is_tti told)

many_both : (xs ys : List Record) → many (xs ++ ys) ≡ many xs + many ys
many_both [] ys = omega arith
many_both (one ∷ xs) ys = by (is_tti one) (many_both xs ys)
  where
    by : (b : Bool) → many (xs ++ ys) ≡ many xs + many ys
        → length (cond b (one ∷ filter is_tti (xs ++ ys)) (filter is_tti (xs ++ ys)))
        ≡ length (cond b (one ∷ filter is_tti xs) (filter is_tti xs)) + many ys
    by true e = omega (arith, e)
    by false e = e

many_filtered : (told : List Record) → many told ≡ many (filter is_of_time told)
many_filtered [] = refl
many_filtered (records.Line number line ∷ told) = many_filtered told
many_filtered (records.Tti t ∷ told) = ap suc (many_filtered told)
many_filtered (records.Sleep ∷ told) = many_filtered told
many_filtered (records.Block way p fresh version octets ∷ told) = many_filtered told
many_filtered (records.Air way what good ∷ told) = many_filtered told
many_filtered (one ∷ told) = many_filtered told

none_of_air : (told : List Record) → AllAir told → many told ≡ 0
none_of_air [] air = refl
none_of_air (records.Sleep ∷ told) air = none_of_air told air.1
none_of_air (records.Block way p fresh version octets ∷ told) air = none_of_air told air.1
none_of_air (records.Air way what good ∷ told) air = none_of_air told air.1
none_of_air (one ∷ told) air = absurd (let bad = air.0 in cc)

one_tti : (t : ℕ) (told : List Record) → IsTtiTold t told → many told ≡ 1
one_tti t told i = ap many i.told_is ∙ ap suc (none_of_air i.flown i.of_air)

in_turn : (Each : ℕ → List Record → Type 0) → ((n : ℕ) (told : List Record) → Each n told → IsTtiTold n told)
    → (t count : ℕ) (told : List Record) → InTurn Each t count told → many told ≡ count
in_turn Each each t zero told h = ap many h
in_turn Each each t (suc n) told h =
    let one = one_tti t h.first (each t h.first h.is_first) in
    let rest = in_turn Each each (t + 1) n h.second h.is_second in
    ap many h.told_are ∙ many_both h.first h.second ∙ omega (arith, one, rest)

ttis_next : (g : Group) (past : List Group) → ttis (g ∷ past) ≡ ttis past + many (filter is_of_time g.events)
ttis_next g past =
    many_both (history past) (records.Line g.number g.line ∷ g.events)
    ∙ ap (λ (n : ℕ). ttis past + n) (many_filtered g.events)

-- ---- behind groups

abbrev pub ages : Side → List Group → Ages
ages from [] = none_aged
ages from (g ∷ past) = if is_handover g.line then none_aged else all_age from g.events (ages from past)

none_young : (from : Side) (t : ℕ) (told : List Record) (hs : Processes) (x : Ages) → told ≡ []
    → Follows t hs x.count → IsTtiYoung from (t + many told) told hs x
none_young from t told hs x none before =
    let next : t ≡ t + 0 = omega arith in
    subst (λ (l : List Record). IsTtiYoung from (t + many l) l hs x) (sym none)
    (subst (λ (n : ℕ). IsTtiYoung from n [] hs x) next (record { young = tt; follows = before }))

time_young : (from : Side) (m t : ℕ) (p : Part) (told : List Record) → HasItsTtis t p told → m ≤ 28 → (hs : Processes)
    (x : Ages) → Follows t hs x.count → AllResent m (behind from told hs) → IsTtiYoung from (t + many told) told hs x
time_young from m t (Submits side lcid octets) told h few hs x before all = none_young from t told hs x h before
time_young from m t (Passes up_grant up down_grant down) told h few hs x before all =
    let i = passes_told t up_grant down_grant up down told h in
    subst (λ (n : ℕ). IsTtiYoung from (t + n) told hs x) (sym (one_tti t told i))
    (one_tti_young from m t told i few hs x before all)
time_young from m t (Drains grant) told h few hs x before all =
    subst (λ (n : ℕ). IsTtiYoung from (t + n) told hs x)
    (sym (in_turn (λ n. Ttis (FliesInDrain grant n) n) (λ n l. drains_told grant n l) t h.0 told h.1))
    (ttis_young from m (λ n. Ttis (FliesInDrain grant n) n) (λ n l. drains_told grant n l) few t h.0 told h.1 hs x
    before all)
time_young from m t Rests told h few hs x before all = none_young from t told hs x h before

line_follows : (from : Side) (number t : ℕ) (line : Line) (hs : Processes) (f : ℕ → ℕ) → Follows t hs f
    → Follows t (behind_line from number line hs) f
line_follows from number t line hs f before p octets low = by (empties line)
  where
    none : (o : List ℕ) → None ≡ Some o → ⊥
    none o e = cc

    by : (b : Bool) → last_block (deeds_of (if b then [] else (hs p).flights)) ≡ Some octets
        → f p + 8 ≤ (t + 7 - p) % 8 + 1 + 8 * harq.visits (deeds_of (if b then [] else (hs p).flights))
    by true e = absurd (none octets e)
    by false e = before p octets low e

group_young : (from : Side) (g : Group) (past : List Group) → GroupIsRight g past → visits (g ∷ past) ≤ 28
    → Follows (ttis past) (processes from past) (ages from past).count
    → IsTtiYoung from (ttis past + many (filter is_of_time g.events)) (filter is_of_time g.events)
    (behind_line from g.number g.line (processes from past)) (ages from past)
group_young from g past h few before =
    time_young from (visits (g ∷ past)) (ttis past) (part_of_line g.line) (filter is_of_time g.events) h.ttis_are few
    (behind_line from g.number g.line (processes from past)) (ages from past)
    (line_follows from g.number (ttis past) g.line (processes from past) (ages from past).count before)
    (λ p low. subst (λ (k : Heard). AreResent (visits (g ∷ past)) (deeds_of k.flights)) (group_heard from g past p)
    (resent_of from g past h p low))

group_follows : (from : Side) (g : Group) (past : List Group) → GroupIsRight g past → visits (g ∷ past) ≤ 28
    → Follows (ttis past) (processes from past) (ages from past).count
    → Follows (ttis (g ∷ past)) (processes from (g ∷ past)) (ages from (g ∷ past)).count
group_follows from g past h few before p octets low e = by (is_handover g.line) refl
  where
    by : (b : Bool) → is_handover g.line ≡ b
        → (if b then none_aged else all_age from g.events (ages from past)).count p + 8
        ≤ (ttis (g ∷ past) + 7 - p) % 8 + 1 + 8 * harq.visits (deeds_of (processes from (g ∷ past) p).flights)
    by true is = absurd (none_moved from g past h p octets is e)
    by false is =
        let y = (group_young from g past h few before).follows p octets low
        (sym (ap (λ (k : Heard). last_block (deeds_of k.flights)) (group_heard from g past p)) ∙ e) in
        subst (λ (z : Ages). z.count p + 8
        ≤ (ttis (g ∷ past) + 7 - p) % 8 + 1 + 8 * harq.visits (deeds_of (processes from (g ∷ past) p).flights))
        (sym (age_filtered from g.events (ages from past)))
        (subst (λ (n : ℕ). (all_age from (filter is_of_time g.events) (ages from past)).count p + 8
        ≤ (n + 7 - p) % 8 + 1 + 8 * harq.visits (deeds_of (processes from (g ∷ past) p).flights))
        (sym (ttis_next g past))
        (subst (λ (k : Heard). (all_age from (filter is_of_time g.events) (ages from past)).count p + 8
        ≤ (ttis past + many (filter is_of_time g.events) + 7 - p) % 8 + 1 + 8 * harq.visits (deeds_of k.flights))
        (sym (group_heard from g past p)) y))

no_follows : (from : Side) → Follows (ttis []) (processes from []) (ages from []).count
no_follows from p octets low e = absurd (none octets e)
  where
    none : (o : List ℕ) → None ≡ Some o → ⊥
    none o e = cc

follows : (from : Side) (past : List Group) → AirIsRight past → VisitsAreFew past
    → Follows (ttis past) (processes from past) (ages from past).count
follows from [] h few = no_follows from
follows from (g ∷ past) h few = group_follows from g past h.0 few.0 (follows from past h.1 few.1)

pub all_young : (from : Side) (g : Group) (past : List Group) → AirIsRight (g ∷ past) → VisitsAreFew (g ∷ past)
    → AreYoung from g.events (ages from past)
all_young from g past h few =
    young_filtered from g.events (ages from past)
    (group_young from g past h.0 few.0 (follows from past h.1 few.1)).young

-- ---- so few were told of since

pub none_under : IsUnder none_pending none_aged
none_under = record { named = omega arith; since = λ q. omega arith; process = refl }

pub settled_under : (x : Pending) (y : Ages) → IsUnder x y → IsUnder (settled x) y
settled_under x y h = record { named = omega arith; since = h.since; process = h.process }

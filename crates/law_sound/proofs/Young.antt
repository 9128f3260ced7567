-- A block that is got was built at most 27 visits of its process before, so few new blocks ago.
use Rattle.std.proofs.Common.{◌≡◌, ◌<◌, ◌≤◌, ℕ, zero, suc, ◌+◌, ◌-◌, ◌*◌, ◌%◌, ◌==◌, Bool, true, false, List, [], ◌∷◌}
use Rattle.std.proofs.Common.{◌++◌, Option, Some, None, is_some, refl, ap, sym, ◌∙◌, subst, if◌then◌else◌, arith}
use Rattle.std.specs.List.{filter}
use Rattle.std.proofs.lemmas.Bool.{eq-eqb, eqb-true, true≢false}
use Rattle.l2_types.specs.declared.side.Side.{Side}
use Rattle.l2_types.specs.declared.side.Side.TheVariants.{Nb, Ue}
use Rattle.mac_pdu.specs.declared.item.Direction.TheVariants.{Down, Up}
use Rattle.harq.specs.SendHistory.{Deed, last_block, visits}
use Rattle.harq.specs.SendHistory.{IsRight as AreResent}
use Rattle.bearer_types.specs.Sides.{is_same, sender_of, sent_by}
use Rattle.air_record.specs.declared.record.Record.{Record}
use Rattle.air_record.specs.declared.record.Record.TheVariants as records
use Rattle.law_words.specs.Sequences.{◌then◌}
use Rattle.promises.specs.Air.{InTurn}
use Rattle.promises.specs.Heard.{Flight, Heard, deeds_of}
use Rattle.promises.specs.Records.{is_got}
use Rattle.promises.specs.RightAir.{is_of_time, is_toward}
use Rattle.journal_air.specs.Told.{BlockTold, AirTold, WayTold, block_told, way_records, air_records}
use Rattle.journal_air.proofs.Tellings.{KindsAre}
use Rattle.journal_air.proofs.Visits.{told_deed}
use Rattle.law_sound.proofs.Flown.{own_is}
use Rattle.law_sound.proofs.Flown.{IsWay, IsTtiTold, way_of, LastIs, deed_is, no_block, Processes, behind}
use Rattle.law_sound.proofs.Flown.{AllResent, way_is, flights_by, flights_are, heard_behind, resent_same, ttis_back}

-- ---- how many new blocks of a side were sent since that of each process, it counted

pub record Ages : Type 0 where
  pub count : ℕ → ℕ
  pub process : ℕ

abbrev pub none_aged : Ages
none_aged = record { count = λ p. 0; process = 0 }

abbrev pub with_age : ℕ → Ages → Ages
with_age p x = record { count = λ q. if q == p then 1 else x.count q + 1; process = p }

abbrev pub after_age : Side → Record → Ages → Ages
after_age from (records.Block way p true version octets) x = if is_same (sender_of way) from then with_age p x else x
after_age from (records.Block way p false version octets) x =
    if is_same (sender_of way) from then record { count = x.count; process = p } else x
after_age from one x = x

abbrev pub all_age : Side → List Record → Ages → Ages
all_age from [] x = x
all_age from (one ∷ told) x = all_age from told (after_age from one x)

-- one that is got is young
abbrev pub oldest : ℕ
oldest = 224

abbrev pub IsYoung : Side → Record → Ages → Type 0
IsYoung from (records.Air way what heard) x =
    is_same (sender_of way) from ≡ true → is_got what ≡ true → x.count x.process ≤ oldest
IsYoung from one x = Unit {0}

abbrev pub AreYoung : Side → List Record → Ages → Type 0
AreYoung from [] x = Unit {0}
AreYoung from (one ∷ told) x = IsYoung from one x × AreYoung from told (after_age from one x)

pub age_both : (from : Side) (xs ys : List Record) (x : Ages)
    → all_age from (xs ++ ys) x ≡ all_age from ys (all_age from xs x)
age_both from [] ys x = refl
age_both from (one ∷ xs) ys x = age_both from xs ys (after_age from one x)

pub young_both : (from : Side) (xs ys : List Record) (x : Ages) → AreYoung from xs x
    → AreYoung from ys (all_age from xs x) → AreYoung from (xs ++ ys) x
young_both from [] ys x h k = k
young_both from (one ∷ xs) ys x h k = (h.0, young_both from xs ys (after_age from one x) h.1 k)

-- ---- the side's own way

abbrev counts_with : Option BlockTold → (ℕ → ℕ) → ℕ → ℕ
counts_with None f q = f q
counts_with (Some b) f q = if b.fresh then (if q == b.process then 1 else f q + 1) else f q

-- what is sent again is young
abbrev Recent : Option BlockTold → (ℕ → ℕ) → Type 0
Recent block f = (b : BlockTold) → block ≡ Some b → b.fresh ≡ false → f b.process ≤ oldest

record IsYoungWay (from : Side) (told : List Record) (x : Ages) (counts : ℕ → ℕ) : Type 0 where
  young : AreYoung from told x
  counts_are : (q : ℕ) → (all_age from told x).count q ≡ counts q

new_young : (p : ℕ) (x : Ages) → (with_age p x).count p ≤ oldest
new_young p x =
    subst (λ (b : Bool). (if b then 1 else x.count p + 1) ≤ oldest) (sym (eq-eqb p p refl)) (omega arith)

block_young : (from : Side) (p : ℕ) (fresh : Bool) (version : ℕ) (octets : List ℕ) (air : Option AirTold) (x : Ages)
    → (fresh ≡ false → x.count p ≤ oldest)
    → IsYoungWay from (records.Block (sent_by from) p fresh version octets ∷ air_records (sent_by from) air) x
    (counts_with (Some (block_told p fresh version octets)) x.count)
block_young Nb p true version octets None x old = record { young = (tt, tt); counts_are = λ q. refl }
block_young Nb p true version octets (Some a) x old =
    record { young = (tt, (λ own got. new_young p x, tt)); counts_are = λ q. refl }
block_young Nb p false version octets None x old = record { young = (tt, tt); counts_are = λ q. refl }
block_young Nb p false version octets (Some a) x old =
    record { young = (tt, (λ own got. old refl, tt)); counts_are = λ q. refl }
block_young Ue p true version octets None x old = record { young = (tt, tt); counts_are = λ q. refl }
block_young Ue p true version octets (Some a) x old =
    record { young = (tt, (λ own got. new_young p x, tt)); counts_are = λ q. refl }
block_young Ue p false version octets None x old = record { young = (tt, tt); counts_are = λ q. refl }
block_young Ue p false version octets (Some a) x old =
    record { young = (tt, (λ own got. old refl, tt)); counts_are = λ q. refl }

lone_young : (from : Side) (air : Option AirTold) (x : Ages)
    → ((a : AirTold) → air ≡ Some a → is_got a.what ≡ true → ⊥)
    → IsYoungWay from (air_records (sent_by from) air) x x.count
lone_young from None x none = record { young = tt; counts_are = λ q. refl }
lone_young from (Some a) x none =
    record { young = (λ own got. absurd (none a refl got), tt); counts_are = λ q. refl }

own_young : (from : Side) (t : ℕ) (w : WayTold) (x : Ages) → IsWay t w → Recent w.block x.count
    → IsYoungWay from (way_records (sent_by from) w) x (counts_with w.block x.count)
own_young from t w x is recent = by w.block w.air is.got recent
  where
    by : (block : Option BlockTold) (air : Option AirTold)
        → ((a : AirTold) → air ≡ Some a → is_got a.what ≡ true → is_some block ≡ true) → Recent block x.count
        → IsYoungWay from (way_records (sent_by from) (record { block = block; air = air })) x
        (counts_with block x.count)
    by None air got recent = lone_young from air x (λ a e g. true≢false (sym (got a e g)))
    by (Some b) air got recent = block_young from b.process b.fresh b.version b.octets air x (recent b refl)

no : {A : Type 0} → false ≡ true → A
no e = absurd (true≢false (sym e))

-- ---- both ways, told in any order

own_next : (from : Side) (one : Record) (told own : List Record) (x : Ages) (counts : ℕ → ℕ)
    → IsYoungWay from (one ∷ own) x counts
    → (IsYoungWay from own (after_age from one x) counts → IsYoungWay from told (after_age from one x) counts)
    → IsYoungWay from (one ∷ told) x counts
own_next from one told own x counts h more =
    let m = more (record { young = h.young.1; counts_are = h.counts_are }) in
    record { young = (h.young.0, m.young); counts_are = m.counts_are }

other_next : (from : Side) (one : Record) (told : List Record) (x : Ages) (counts : ℕ → ℕ)
    → IsYoung from one x → after_age from one x ≡ x → IsYoungWay from told x counts
    → IsYoungWay from (one ∷ told) x counts
other_next from one told x counts is same h =
    let k = subst (λ (y : Ages). IsYoungWay from told y counts) (sym same) h in
    record { young = (is, k.young); counts_are = k.counts_are }

any_order : (from : Side) (told : List Record) (x : Ages) (counts : ℕ → ℕ)
    → IsYoungWay from (filter (is_toward (sent_by from)) told) x counts → IsYoungWay from told x counts
any_order from [] x counts h = h
any_order Nb (records.Block Down p fresh version octets ∷ told) x counts h =
    own_next Nb (records.Block Down p fresh version octets) told _ x counts h (any_order Nb told _ counts)
any_order Ue (records.Block Up p fresh version octets ∷ told) x counts h =
    own_next Ue (records.Block Up p fresh version octets) told _ x counts h (any_order Ue told _ counts)
any_order Nb (records.Air Down what good ∷ told) x counts h =
    own_next Nb (records.Air Down what good) told _ x counts h (any_order Nb told x counts)
any_order Ue (records.Air Up what good ∷ told) x counts h =
    own_next Ue (records.Air Up what good) told _ x counts h (any_order Ue told x counts)
any_order Nb (records.Block Up p true version octets ∷ told) x counts h =
    other_next Nb (records.Block Up p true version octets) told x counts tt refl (any_order Nb told x counts h)
any_order Nb (records.Block Up p false version octets ∷ told) x counts h =
    other_next Nb (records.Block Up p false version octets) told x counts tt refl (any_order Nb told x counts h)
any_order Ue (records.Block Down p true version octets ∷ told) x counts h =
    other_next Ue (records.Block Down p true version octets) told x counts tt refl (any_order Ue told x counts h)
any_order Ue (records.Block Down p false version octets ∷ told) x counts h =
    other_next Ue (records.Block Down p false version octets) told x counts tt refl (any_order Ue told x counts h)
any_order Nb (records.Air Up what good ∷ told) x counts h =
    other_next Nb (records.Air Up what good) told x counts (λ own got. no own) refl (any_order Nb told x counts h)
any_order Ue (records.Air Down what good ∷ told) x counts h =
    other_next Ue (records.Air Down what good) told x counts (λ own got. no own) refl (any_order Ue told x counts h)
any_order from (one ∷ told) x counts h = other_next from one told x counts tt refl (any_order from told x counts h)

tti_first : (from : Side) (t : ℕ) (told : List Record) (x : Ages) (counts : ℕ → ℕ)
    → IsYoungWay from told x counts → IsYoungWay from (records.Tti t ∷ told) x counts
tti_first from t told x counts h = record { young = (tt, h.young); counts_are = h.counts_are }

ways_young : (from : Side) (t : ℕ) (flown : List Record) (asleep : Bool) (down up : WayTold) (x : Ages)
    → KindsAre flown asleep down up → IsWay t (way_of from down up) → Recent (way_of from down up).block x.count
    → IsYoungWay from flown x (counts_with (way_of from down up).block x.count)
ways_young from t flown asleep down up x kinds is recent =
    let counts : ℕ → ℕ = counts_with (way_of from down up).block x.count in
    any_order from flown x counts
    (subst (λ (l : List Record). IsYoungWay from l x counts) (sym (own_is from flown asleep down up kinds))
    (own_young from t (way_of from down up) x is recent))

-- ---- by the visits of its process

-- the TTIs since the last visit of a process, behind so many TTIs
abbrev gap : ℕ → ℕ → ℕ
gap t p = (t + 7 - p) % 8 + 1

-- no more new blocks than TTIs
abbrev pub Follows : ℕ → Processes → (ℕ → ℕ) → Type 0
Follows t hs f =
    (p : ℕ) (octets : List ℕ) → p < 8 → last_block (deeds_of (hs p).flights) ≡ Some octets
    → f p + 8 ≤ gap t p + 8 * visits (deeds_of (hs p).flights)

-- ---- what a visit leaves

one_more : (t p n v : ℕ) → p ≡ t % 8 → n + 8 ≤ gap t p + 8 * v → n + 8 ≤ gap (t + 1) p + 8 * (v + 1)
one_more t p n v here h = omega (arith, here, h)

anew : (t p : ℕ) → p ≡ t % 8 → 1 + 8 ≤ gap (t + 1) p + 8 * 1
anew t p here = omega (arith, here)

wait_more : (t p : ℕ) → p < 8 → (p ≡ t % 8 → ⊥) → gap (t + 1) p ≡ gap t p + 1
wait_more t p low apart = omega (arith, low, apart)

few_visits : (t p n v m : ℕ) → p ≡ t % 8 → n + 8 ≤ gap t p + 8 * v → v < m → m ≤ 28 → n ≤ oldest
few_visits t p n v m here h lt few = omega (arith, here, h, lt, few)

-- of the process that is visited
deed_follows : (t p : ℕ) (f : ℕ → ℕ) (block : Option BlockTold) (d : Deed) (ds : List Deed) (octets : List ℕ)
    → p ≡ t % 8 → ((b : BlockTold) → block ≡ Some b → b.process ≡ p) → LastIs block d
    → ((own : List ℕ) → last_block ds ≡ Some own → f p + 8 ≤ gap t p + 8 * visits ds)
    → last_block (d ∷ ds) ≡ Some octets
    → counts_with block f p + 8 ≤ gap (t + 1) p + 8 * visits (d ∷ ds)
deed_follows t p f None d ds octets here at is before e =
    subst (λ (x : Deed). f p + 8 ≤ gap (t + 1) p + 8 * visits (x ∷ ds)) (sym is)
    (one_more t p (f p) (visits ds) here
    (before octets (sym (ap (λ (x : Deed). last_block (x ∷ ds)) is) ∙ e)))
deed_follows t p f (Some b) d ds octets here at is before e =
    subst (λ (x : Deed). counts_with (Some b) f p + 8 ≤ gap (t + 1) p + 8 * visits (x ∷ ds)) (sym is.1)
    (by b.fresh (sym (ap (λ (x : Deed). last_block (x ∷ ds)) is.1) ∙ e))
  where
    by : (fresh : Bool) → last_block (told_deed fresh b.version b.octets is.0 ∷ ds) ≡ Some octets
        → (if fresh then (if p == b.process then 1 else f p + 1) else f p) + 8
        ≤ gap (t + 1) p + 8 * visits (told_deed fresh b.version b.octets is.0 ∷ ds)
    by true k =
        subst (λ (c : Bool). (if c then 1 else f p + 1) + 8 ≤ gap (t + 1) p + 8 * 1)
        (sym (eq-eqb p b.process (sym (at b refl)))) (anew t p here)
    by false k = one_more t p (f p) (visits ds) here (before octets k)

-- of another
count_apart : (p q : ℕ) (f : ℕ → ℕ) (block : Option BlockTold) → ((b : BlockTold) → block ≡ Some b → b.process ≡ p)
    → (q == p) ≡ false → counts_with block f q ≤ f q + 1
count_apart p q f None at apart = omega arith
count_apart p q f (Some b) at apart = by b.fresh (ap (λ (n : ℕ). q == n) (at b refl) ∙ apart)
  where
    by : (fresh : Bool) → (q == b.process) ≡ false
        → (if fresh then (if q == b.process then 1 else f q + 1) else f q) ≤ f q + 1
    by true e = subst (λ (c : Bool). (if c then 1 else f q + 1) ≤ f q + 1) (sym e) (omega arith)
    by false e = omega arith

-- one that is sent again
is_recent : (m t p version : ℕ) (octets : List ℕ) (good fresh : Bool) (ds : List Deed) (f : ℕ → ℕ) → p ≡ t % 8
    → m ≤ 28 → fresh ≡ false
    → ((own : List ℕ) → last_block ds ≡ Some own → f p + 8 ≤ gap t p + 8 * visits ds)
    → AreResent m (told_deed fresh version octets good ∷ ds) → f p ≤ oldest
is_recent m t p version octets good true ds f here few e before h = no (sym e)
is_recent m t p version octets good false ds f here few e before h =
    few_visits t p (f p) (visits ds) m here (before octets h.0.same_octets) h.0.has_visit few

recent_by : (m t p : ℕ) (block : Option BlockTold) (d : Deed) (ds : List Deed) (f : ℕ → ℕ) → p ≡ t % 8 → m ≤ 28
    → ((b : BlockTold) → block ≡ Some b → b.process ≡ p) → LastIs block d
    → ((own : List ℕ) → last_block ds ≡ Some own → f p + 8 ≤ gap t p + 8 * visits ds)
    → AreResent m (d ∷ ds) → Recent block f
recent_by m t p None d ds f here few at is before h b e old = absurd (no_block b e)
recent_by m t p (Some c) d ds f here few at is before h b e old =
    let same : c ≡ b = cc in
    let fresh : c.fresh ≡ false = ap (λ (x : BlockTold). x.fresh) same ∙ old in
    subst (λ (n : ℕ). f n ≤ oldest) (sym (at b e))
    (is_recent m t p c.version c.octets is.0 c.fresh ds f here few fresh before
    (subst (λ (x : Deed). AreResent m (x ∷ ds)) is.1 h))

-- ---- a TTI

pub record IsTtiYoung (from : Side) (next : ℕ) (told : List Record) (hs : Processes) (x : Ages) : Type 0 where
  pub young : AreYoung from told x
  pub follows : Follows next (behind from told hs) (all_age from told x).count

tti_young : (from : Side) (m t : ℕ) (told : List Record) → IsTtiTold t told → m ≤ 28 → (hs : Processes) (x : Ages)
    → Follows t hs x.count → AllResent m (behind from told hs) → IsTtiYoung from (t + 1) told hs x
tti_young from m t told i few hs x before all =
    let w : WayTold = way_of from i.down i.up in
    let is = way_is from t told i in
    let low : t % 8 < 8 = omega arith in
    let test : (t % 8 == t % 8) ≡ true = eq-eqb (t % 8) (t % 8) refl in
    let here = subst (λ (fs : List Flight). AreResent m (deeds_of fs))
    (flights_are from t told i hs (t % 8) ∙ ap (flights_by from (t % 8) t i.asleep i.down i.up (hs (t % 8))) test)
    (all (t % 8) low) in
    let last = deed_is (hs (t % 8)).lost i.asleep (way_of from i.down i.up).block (way_of from i.down i.up).air in
    let recent = recent_by m t (t % 8) (way_of from i.down i.up).block _ (deeds_of (hs (t % 8)).flights) x.count refl
    few is.process last (λ own e. before (t % 8) own low e) here in
    let f = tti_first from t i.flown x (counts_with (way_of from i.down i.up).block x.count)
    (ways_young from t i.flown i.asleep i.down i.up x i.kinds is recent) in
    let g = subst (λ (l : List Record). IsYoungWay from l x (counts_with (way_of from i.down i.up).block x.count))
    (sym i.told_is) f in
    record {
      young = g.young;
      follows = λ q octets lt e.
          subst (λ (n : ℕ). n + 8 ≤ gap (t + 1) q + 8 * visits (deeds_of (behind from told hs q).flights))
          (sym (g.counts_are q))
          (subst (λ (fs : List Flight). counts_with (way_of from i.down i.up).block x.count q + 8
          ≤ gap (t + 1) q + 8 * visits (deeds_of fs)) (sym (flights_are from t told i hs q))
          (by q octets lt (q == t % 8) refl
          (sym (ap (λ (fs : List Flight). last_block (deeds_of fs)) (flights_are from t told i hs q)) ∙ e)));
    }
  where
    by : (q : ℕ) (octets : List ℕ) → q < 8 → (b : Bool) → (q == t % 8) ≡ b
        → last_block (deeds_of (flights_by from q t i.asleep i.down i.up (hs q) b)) ≡ Some octets
        → counts_with (way_of from i.down i.up).block x.count q + 8
        ≤ gap (t + 1) q + 8 * visits (deeds_of (flights_by from q t i.asleep i.down i.up (hs q) b))
    by q octets lt true e k =
        let same = eqb-true q (t % 8) e in
        deed_follows t q x.count (way_of from i.down i.up).block _ (deeds_of (hs q).flights) octets same
        (λ b f. (way_is from t told i).process b f ∙ sym same)
        (deed_is (hs q).lost i.asleep (way_of from i.down i.up).block (way_of from i.down i.up).air)
        (λ own known. before q own lt known) k
    by q octets lt false e k =
        let apart : q ≡ t % 8 → ⊥ = λ same. true≢false (sym (eq-eqb q (t % 8) same) ∙ e) in
        let gaps = wait_more t q lt apart in
        let count = count_apart (t % 8) q x.count (way_of from i.down i.up).block (way_is from t told i).process e in
        let old = before q octets lt k in
        omega (arith, gaps, count, old)

-- ---- several TTIs

follows_same : (t : ℕ) (hs gs : Processes) (f : ℕ → ℕ) → ((p : ℕ) → hs p ≡ gs p) → Follows t hs f → Follows t gs f
follows_same t hs gs f same h p octets low e =
    subst (λ (k : Heard). f p + 8 ≤ gap t p + 8 * visits (deeds_of k.flights)) (same p)
    (h p octets low (ap (λ (k : Heard). last_block (deeds_of k.flights)) (same p) ∙ e))

pub ttis_young : (from : Side) (m : ℕ) (Each : ℕ → List Record → Type 0)
    → ((n : ℕ) (told : List Record) → Each n told → IsTtiTold n told) → m ≤ 28 → (t count : ℕ) (told : List Record)
    → InTurn Each t count told → (hs : Processes) (x : Ages) → Follows t hs x.count
    → AllResent m (behind from told hs) → IsTtiYoung from (t + count) told hs x
ttis_young from m Each each few t zero told h hs x before all =
    let next : t ≡ t + 0 = omega arith in
    subst (λ (n : ℕ). IsTtiYoung from n told hs x) next
    (subst (λ (l : List Record). IsTtiYoung from t l hs x) (sym h) (record { young = tt; follows = before }))
ttis_young from m Each each few t (suc n) told h hs x before all =
    let rest = resent_same m (behind from (h.first ++ h.second) hs) (behind from h.second (behind from h.first hs))
    (heard_behind from h.first h.second hs)
    (subst (λ (l : List Record). AllResent m (behind from l hs)) h.told_are all) in
    let here = ttis_back from m Each each (t + 1) n h.second h.is_second (behind from h.first hs) rest in
    let one = tti_young from m t h.first (each t h.first h.is_first) few hs x before here in
    let more = ttis_young from m Each each few (t + 1) n h.second h.is_second (behind from h.first hs)
    (all_age from h.first x) one.follows rest in
    let next : t + 1 + n ≡ t + suc n = omega arith in
    subst (λ (k : ℕ). IsTtiYoung from k told hs x) next
    (subst (λ (l : List Record). IsTtiYoung from (t + 1 + n) l hs x) (sym h.told_are)
    (record {
      young = young_both from h.first h.second x one.young more.young;
      follows = follows_same (t + 1 + n) (behind from h.second (behind from h.first hs))
          (behind from (h.first ++ h.second) hs) (all_age from (h.first ++ h.second) x).count
          (λ p. sym (heard_behind from h.first h.second hs p))
          (subst (λ (y : Ages). Follows (t + 1 + n) (behind from h.second (behind from h.first hs)) y.count)
          (sym (age_both from h.first h.second x)) more.follows);
    }))

pub one_tti_young : (from : Side) (m t : ℕ) (told : List Record) → IsTtiTold t told → m ≤ 28 → (hs : Processes)
    (x : Ages) → Follows t hs x.count → AllResent m (behind from told hs) → IsTtiYoung from (t + 1) told hs x
one_tti_young from m t told i few hs x before all = tti_young from m t told i few hs x before all

-- ---- what tells nothing of the time

pub young_filtered : (from : Side) (told : List Record) (x : Ages) → AreYoung from (filter is_of_time told) x
    → AreYoung from told x
young_filtered from [] x h = tt
young_filtered from (records.Line number line ∷ told) x h = (tt, young_filtered from told x h.1)
young_filtered from (records.Tti t ∷ told) x h = (tt, young_filtered from told x h.1)
young_filtered from (records.Sleep ∷ told) x h = (tt, young_filtered from told x h.1)
young_filtered from (records.Block way p true version octets ∷ told) x h =
    (tt, young_filtered from told (after_age from (records.Block way p true version octets) x) h.1)
young_filtered from (records.Block way p false version octets ∷ told) x h =
    (tt, young_filtered from told (after_age from (records.Block way p false version octets) x) h.1)
young_filtered from (records.Air way what good ∷ told) x h = (h.0, young_filtered from told x h.1)
young_filtered from (one ∷ told) x h = (tt, young_filtered from told x h)

pub age_filtered : (from : Side) (told : List Record) (x : Ages)
    → all_age from told x ≡ all_age from (filter is_of_time told) x
age_filtered from [] x = refl
age_filtered from (records.Line number line ∷ told) x = age_filtered from told x
age_filtered from (records.Tti t ∷ told) x = age_filtered from told x
age_filtered from (records.Sleep ∷ told) x = age_filtered from told x
age_filtered from (records.Block way p true version octets ∷ told) x =
    age_filtered from told (after_age from (records.Block way p true version octets) x)
age_filtered from (records.Block way p false version octets ∷ told) x =
    age_filtered from told (after_age from (records.Block way p false version octets) x)
age_filtered from (records.Air way what good ∷ told) x = age_filtered from told x
age_filtered from (one ∷ told) x = age_filtered from told x

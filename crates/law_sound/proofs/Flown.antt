-- The blocks of a side in a journal whose air is right: one that is sent again is the last new one
-- of its process, and one that is got was sent just before.
use Rattle.std.proofs.Common.{◌≡◌, ◌<◌, ◌⊎◌, ℕ, zero, suc, ◌+◌, ◌%◌, ◌==◌, Bool, true, false, List, [], ◌∷◌}
use Rattle.std.proofs.Common.{◌++◌, Option}
use Rattle.std.proofs.Common.{Some, None, is_some, refl, ap, sym, ◌∙◌, inl, inr, subst, if◌then◌else◌, arith}
use Rattle.std.specs.List.{filter}
use Rattle.std.proofs.lemmas.Bool.{eq-eqb, eqb-true}
use Rattle.l2_types.specs.declared.side.Side.{Side}
use Rattle.l2_types.specs.declared.side.Side.TheVariants.{Nb, Ue}
use Rattle.mac_pdu.specs.declared.item.Direction.{Direction}
use Rattle.mac_pdu.specs.declared.item.Direction.TheVariants.{Down, Up}
use Rattle.harq.specs.SendHistory.{Deed, Waited, Built, Resent, last_block}
use Rattle.harq.specs.SendHistory.{IsRight as AreResent}
use Rattle.bearer_types.specs.Sides.{sent_by}
use Rattle.air_record.specs.declared.line.Outcome.{Outcome}
use Rattle.air_record.specs.Outcomes.{turned}
use Rattle.air_record.specs.declared.record.Arrived.TheVariants.{Nothing}
use Rattle.air_record.specs.declared.record.Record.{Record}
use Rattle.air_record.specs.declared.record.Record.TheVariants as records
use Rattle.law_words.specs.Sequences.{◌then◌}
use Rattle.promises.specs.Air.{InTurn}
use Rattle.promises.specs.Flights.{feedback, heard_as, IsDown, IsUp, FliesUp, IsUnanswered}
use Rattle.promises.specs.Heard.{Flight, Heard, idle, hears, heard, deeds_of}
use Rattle.promises.specs.Records.{is_got}
use Rattle.promises.specs.RightAir.{is_of_time, is_toward, FliesInAnyOrder}
use Rattle.journal_air.specs.Told.{BlockTold, AirTold, WayTold, TtiTold, no_way, blank_tti, block_told}
use Rattle.journal_air.specs.Told.{way_records, air_records}
use Rattle.journal_air.proofs.Tellings.{AllAir, KindsAre, told_all, gathered, gives_back, heard_append, hearing}
use Rattle.journal_air.proofs.Tellings.{flight_in, tti_heard}
use Rattle.journal_air.proofs.Tellings.{all_air as are_of_air}
use Rattle.journal_air.proofs.Visits.{flight_of, dozing, landing, told_deed}
use Rattle.law_sound.proofs.Flying.{Flying, with_other, after_air, all_air, IsSent, AreSent}

-- ---- a TTI: of each direction a block, and what comes of it

pub record IsWay (t : ℕ) (w : WayTold) : Type 0 where
  pub process : (b : BlockTold) → w.block ≡ Some b → b.process ≡ t % 8
  pub got : (a : AirTold) → w.air ≡ Some a → is_got a.what ≡ true → is_some w.block ≡ true

record IsWayOf (d : Direction) (t : ℕ) (flown : List Record) : Type 0 where
  way : WayTold
  flown_is : flown ≡ way_records d way
  is : IsWay t way

pub no_block : (b : BlockTold) → None ≡ Some b → ⊥
no_block b e = cc

no_air : (a : AirTold) → None ≡ Some a → ⊥
no_air a e = cc

same_process : (b c : BlockTold) (t : ℕ) → Some b ≡ Some c → b.process ≡ t % 8 → c.process ≡ t % 8
same_process b c t e h = let same : b ≡ c = cc in ap (λ (x : BlockTold). x.process) (sym same) ∙ h

none_way : (t : ℕ) → IsWay t no_way
none_way t = record { process = λ b e. absurd (no_block b e); got = λ a e got. absurd (no_air a e) }

pair_way : (t : ℕ) (fresh : Bool) (version : ℕ) (octets : List ℕ) (a : AirTold)
    → IsWay t (record { block = Some (block_told (t % 8) fresh version octets); air = Some a })
pair_way t fresh version octets a = record {
  process = λ b e. same_process (block_told (t % 8) fresh version octets) b t e refl;
  got = λ c e got. refl;
}

lone_way : (t : ℕ) → IsWay t (record { block = None; air = Some (record { what = Nothing; heard = None }) })
lone_way t = record {
  process = λ b e. absurd (no_block b e);
  got = λ a e got. absurd (silent a e got);
}
  where
    silent : (a : AirTold) → Some (record { what = Nothing; heard = None }) ≡ Some a → is_got a.what ≡ true → ⊥
    silent a e got =
        let same : record { what = Nothing; heard = None } ≡ a = cc in
        let none : is_got a.what ≡ false = ap (λ (x : AirTold). is_got x.what) (sym same) in
        let bad = sym none ∙ got in cc

down_way : (t grant : ℕ) (o : Outcome) (flown : List Record) → IsDown t grant o flown → IsWayOf Down t flown
down_way t zero o flown h = record { way = no_way; flown_is = h.none refl; is = none_way t }
down_way t (suc n) o flown h =
    let f = h.one (omega arith) in
    let a : AirTold = record { what = f.what; heard = Some (turned o.flipped (feedback f.what)) } in
    record {
      way = record { block = Some (block_told (t % 8) f.fresh f.version f.octets); air = Some a };
      flown_is = f.flown_is;
      is = pair_way t f.fresh f.version f.octets a;
    }

up_one : (t : ℕ) (o : Outcome) (flown : List Record) → FliesUp t o flown ⊎ IsUnanswered o flown → IsWayOf Up t flown
up_one t o flown (inl f) =
    let a : AirTold = record { what = heard_as o.fate; heard = Some (turned o.flipped (feedback (heard_as o.fate))) } in
    record {
      way = record { block = Some (block_told (t % 8) f.fresh f.version f.octets); air = Some a };
      flown_is = f.flown_is;
      is = pair_way t f.fresh f.version f.octets a;
    }
up_one t o flown (inr f) = record {
  way = record { block = None; air = Some (record { what = Nothing; heard = None }) };
  flown_is = f.flown_is;
  is = lone_way t;
}

up_way : (t grant : ℕ) (o : Outcome) (flown : List Record) → IsUp t grant o flown → IsWayOf Up t flown
up_way t zero o flown h = record { way = no_way; flown_is = h.none refl; is = none_way t }
up_way t (suc n) o flown h = up_one t o flown (h.one (omega arith))

-- told in any order
pub record IsTtiTold (t : ℕ) (told : List Record) : Type 0 where
  pub flown : List Record
  pub told_is : told ≡ records.Tti t ∷ flown
  pub of_air : AllAir flown
  pub asleep : Bool
  pub down : WayTold
  pub up : WayTold
  pub kinds : KindsAre flown asleep down up
  pub down_is : IsWay t down
  pub up_is : IsWay t up

pub flies_told : (t up_grant down_grant : ℕ) (up down : Outcome) (asleep : Bool) (told : List Record)
    → FliesInAnyOrder asleep t up_grant up down_grant down told → IsTtiTold t (records.Tti t ∷ told)
flies_told t up_grant down_grant up down asleep told f =
    let d = down_way t down_grant _ (filter (is_toward Down) told) f.down_is in
    let u = up_way t up_grant _ (filter (is_toward Up) told) f.up_is in
    record {
      flown = told;
      told_is = refl;
      of_air = are_of_air told f.of_air;
      asleep = asleep;
      down = d.way;
      up = u.way;
      kinds = record { sleeps_is = f.sleeps; down_is = d.flown_is; up_is = u.flown_is };
      down_is = d.is;
      up_is = u.is;
    }

-- ---- records in turn

pub air_both : (from : Side) (xs ys : List Record) (x : Flying)
    → all_air from (xs ++ ys) x ≡ all_air from ys (all_air from xs x)
air_both from [] ys x = refl
air_both from (one ∷ xs) ys x = air_both from xs ys (after_air from one x)

pub flown_both : (from : Side) (xs ys : List Record) (x : Flying) → AreSent from xs x
    → AreSent from ys (all_air from xs x) → AreSent from (xs ++ ys) x
flown_both from [] ys x h k = k
flown_both from (one ∷ xs) ys x h k = (h.0, flown_both from xs ys (after_air from one x) h.1 k)

-- ---- the side's own way

abbrev Blocks : Type 0
Blocks = ℕ → Option (List ℕ)

-- the last new blocks behind one
abbrev blocks_with : Option BlockTold → Blocks → Blocks
blocks_with None f q = f q
blocks_with (Some b) f q = if b.fresh then (if q == b.process then Some b.octets else f q) else f q

abbrev Again : Option BlockTold → Blocks → Type 0
Again block f = (b : BlockTold) → block ≡ Some b → b.fresh ≡ false → f b.process ≡ Some b.octets

record IsFlownWay (from : Side) (told : List Record) (x : Flying) (blocks : Blocks) : Type 0 where
  flown : AreSent from told x
  blocks_are : (q : ℕ) → (all_air from told x).blocks q ≡ blocks q

block_flown : (from : Side) (p : ℕ) (fresh : Bool) (version : ℕ) (octets : List ℕ) (air : Option AirTold) (x : Flying)
    → p < 8 → (fresh ≡ false → x.blocks p ≡ Some octets)
    → IsFlownWay from (records.Block (sent_by from) p fresh version octets ∷ air_records (sent_by from) air) x
    (blocks_with (Some (block_told p fresh version octets)) x.blocks)
block_flown Nb p true version octets None x low same = record { flown = (λ own. low, tt); blocks_are = λ q. refl }
block_flown Nb p true version octets (Some a) x low same =
    record { flown = (λ own. low, (tt, tt)); blocks_are = λ q. refl }
block_flown Nb p false version octets None x low same =
    record { flown = (λ own. (low, same refl), tt); blocks_are = λ q. refl }
block_flown Nb p false version octets (Some a) x low same =
    record { flown = (λ own. (low, same refl), (tt, tt)); blocks_are = λ q. refl }
block_flown Ue p true version octets None x low same = record { flown = (λ own. low, tt); blocks_are = λ q. refl }
block_flown Ue p true version octets (Some a) x low same =
    record { flown = (λ own. low, (tt, tt)); blocks_are = λ q. refl }
block_flown Ue p false version octets None x low same =
    record { flown = (λ own. (low, same refl), tt); blocks_are = λ q. refl }
block_flown Ue p false version octets (Some a) x low same =
    record { flown = (λ own. (low, same refl), (tt, tt)); blocks_are = λ q. refl }

lone_flown : (from : Side) (air : Option AirTold) (x : Flying)
    → ((a : AirTold) → air ≡ Some a → is_got a.what ≡ true → ⊥)
    → IsFlownWay from (air_records (sent_by from) air) x x.blocks
lone_flown from None x none = record { flown = tt; blocks_are = λ q. refl }
lone_flown from (Some a) x none =
    record { flown = (tt, tt); blocks_are = λ q. refl }

own_flown : (from : Side) (t : ℕ) (w : WayTold) (x : Flying) → IsWay t w → Again w.block x.blocks
    → IsFlownWay from (way_records (sent_by from) w) x (blocks_with w.block x.blocks)
own_flown from t w x is again = by w.block w.air is.process is.got again
  where
    by : (block : Option BlockTold) (air : Option AirTold)
        → ((b : BlockTold) → block ≡ Some b → b.process ≡ t % 8)
        → ((a : AirTold) → air ≡ Some a → is_got a.what ≡ true → is_some block ≡ true) → Again block x.blocks
        → IsFlownWay from (way_records (sent_by from) (record { block = block; air = air })) x
        (blocks_with block x.blocks)
    by None air process got again =
        lone_flown from air x (λ a e g. let bad = got a e g in absurd cc)
    by (Some b) air process got again =
        block_flown from b.process b.fresh b.version b.octets air x (omega (arith, process b refl)) (again b refl)

-- the other way
no : {A : Type 0} → false ≡ true → A
no e = absurd (let bad = e in cc)

own_next : (from : Side) (one : Record) (told own : List Record) (x : Flying) (blocks : Blocks)
    → IsFlownWay from (one ∷ own) x blocks
    → (IsFlownWay from own (after_air from one x) blocks → IsFlownWay from told (after_air from one x) blocks)
    → IsFlownWay from (one ∷ told) x blocks
own_next from one told own x blocks h more =
    let m = more (record { flown = h.flown.1; blocks_are = h.blocks_are }) in
    record { flown = (h.flown.0, m.flown); blocks_are = m.blocks_are }

-- which block was sent last says nothing of them
no_last : (from : Side) (told : List Record) (x : Flying) (blocks : Blocks) → IsFlownWay from told x blocks
    → IsFlownWay from told (with_other x) blocks
no_last from [] x blocks h = record { flown = tt; blocks_are = h.blocks_are }
no_last Nb (records.Block Down p true version octets ∷ told) x blocks h =
    record { flown = h.flown; blocks_are = h.blocks_are }
no_last Nb (records.Block Down p false version octets ∷ told) x blocks h =
    record { flown = h.flown; blocks_are = h.blocks_are }
no_last Nb (records.Block Up p true version octets ∷ told) x blocks h =
    record { flown = h.flown; blocks_are = h.blocks_are }
no_last Nb (records.Block Up p false version octets ∷ told) x blocks h =
    record { flown = h.flown; blocks_are = h.blocks_are }
no_last Ue (records.Block Down p true version octets ∷ told) x blocks h =
    record { flown = h.flown; blocks_are = h.blocks_are }
no_last Ue (records.Block Down p false version octets ∷ told) x blocks h =
    record { flown = h.flown; blocks_are = h.blocks_are }
no_last Ue (records.Block Up p true version octets ∷ told) x blocks h =
    record { flown = h.flown; blocks_are = h.blocks_are }
no_last Ue (records.Block Up p false version octets ∷ told) x blocks h =
    record { flown = h.flown; blocks_are = h.blocks_are }
no_last from (one ∷ told) x blocks h =
    let m = no_last from told x blocks (record { flown = h.flown.1; blocks_are = h.blocks_are }) in
    record { flown = (tt, m.flown); blocks_are = m.blocks_are }

other_block : (from : Side) (one : Record) (told : List Record) (x : Flying) (blocks : Blocks)
    → IsSent from one x → after_air from one x ≡ with_other x → IsFlownWay from told x blocks
    → IsFlownWay from (one ∷ told) x blocks
other_block from one told x blocks is same h =
    let k = subst (λ (y : Flying). IsFlownWay from told y blocks) (sym same) (no_last from told x blocks h) in
    record { flown = (is, k.flown); blocks_are = k.blocks_are }

-- ---- both ways, told in any order

any_order : (from : Side) (told : List Record) (x : Flying) (blocks : Blocks)
    → IsFlownWay from (filter (is_toward (sent_by from)) told) x blocks → IsFlownWay from told x blocks
any_order from [] x blocks h = h
any_order Nb (records.Block Down p fresh version octets ∷ told) x blocks h =
    own_next Nb (records.Block Down p fresh version octets) told _ x blocks h (any_order Nb told _ blocks)
any_order Ue (records.Block Up p fresh version octets ∷ told) x blocks h =
    own_next Ue (records.Block Up p fresh version octets) told _ x blocks h (any_order Ue told _ blocks)
any_order Nb (records.Air Down what good ∷ told) x blocks h =
    own_next Nb (records.Air Down what good) told _ x blocks h (any_order Nb told x blocks)
any_order Ue (records.Air Up what good ∷ told) x blocks h =
    own_next Ue (records.Air Up what good) told _ x blocks h (any_order Ue told x blocks)
any_order Nb (records.Block Up p true version octets ∷ told) x blocks h =
    other_block Nb (records.Block Up p true version octets) told x blocks (λ own. no own) refl
    (any_order Nb told x blocks h)
any_order Nb (records.Block Up p false version octets ∷ told) x blocks h =
    other_block Nb (records.Block Up p false version octets) told x blocks (λ own. no own) refl
    (any_order Nb told x blocks h)
any_order Ue (records.Block Down p true version octets ∷ told) x blocks h =
    other_block Ue (records.Block Down p true version octets) told x blocks (λ own. no own) refl
    (any_order Ue told x blocks h)
any_order Ue (records.Block Down p false version octets ∷ told) x blocks h =
    other_block Ue (records.Block Down p false version octets) told x blocks (λ own. no own) refl
    (any_order Ue told x blocks h)
any_order from (one ∷ told) x blocks h =
    let m = any_order from told x blocks h in
    record { flown = (tt, m.flown); blocks_are = m.blocks_are }

tti_first : (from : Side) (t : ℕ) (told : List Record) (x : Flying) (blocks : Blocks)
    → IsFlownWay from told x blocks → IsFlownWay from (records.Tti t ∷ told) x blocks
tti_first from t told x blocks h = record { flown = (tt, h.flown); blocks_are = h.blocks_are }

-- what the side sends of both
abbrev pub way_of : Side → WayTold → WayTold → WayTold
way_of Nb down up = down
way_of Ue down up = up

pub own_is : (from : Side) (flown : List Record) (asleep : Bool) (down up : WayTold) → KindsAre flown asleep down up
    → filter (is_toward (sent_by from)) flown ≡ way_records (sent_by from) (way_of from down up)
own_is Nb flown asleep down up k = k.down_is
own_is Ue flown asleep down up k = k.up_is

ways_flown : (from : Side) (t : ℕ) (flown : List Record) (asleep : Bool) (down up : WayTold) (x : Flying)
    → KindsAre flown asleep down up → IsWay t (way_of from down up) → Again (way_of from down up).block x.blocks
    → IsFlownWay from flown x (blocks_with (way_of from down up).block x.blocks)
ways_flown from t flown asleep down up x kinds is again =
    let blocks : Blocks = blocks_with (way_of from down up).block x.blocks in
    any_order from flown x blocks
    (subst (λ (l : List Record). IsFlownWay from l x blocks) (sym (own_is from flown asleep down up kinds))
    (own_flown from t (way_of from down up) x is again))

-- ---- the deeds of processes

-- of a process, by the TTI
flights_told : (from : Side) (p t : ℕ) (flown : List Record) (asleep : Bool) (down up : WayTold) (h : Heard)
    → AllAir flown → KindsAre flown asleep down up
    → (heard (sent_by from) p (records.Tti t ∷ flown) h).flights
    ≡ (if p == t % 8 then flight_of h.lost asleep (way_of from down up).block (way_of from down up).air ∷ h.flights
    else h.flights)
flights_told from p t flown asleep down up h air kinds =
    let given = gives_back flown asleep down up kinds in
    ap (λ (k : Heard). k.flights)
    (tti_heard (sent_by from) p t flown h air (ap (λ (y : TtiTold). y.in_order) given))
    ∙ by (p == t % 8) (told_all flown blank_tti) given
  where
    own : (from : Side) → flight_in (sent_by from) h.lost (gathered asleep down up) ∷ h.flights
        ≡ flight_of h.lost asleep (way_of from down up).block (way_of from down up).air ∷ h.flights
    own Nb = refl
    own Ue = refl

    by : (b : Bool) (y : TtiTold) → y ≡ gathered asleep down up
        → (if b then hearing h.lost true (flight_in (sent_by from) h.lost y ∷ h.flights)
        else hearing h.lost false h.flights).flights
        ≡ (if b then flight_of h.lost asleep (way_of from down up).block (way_of from down up).air ∷ h.flights
        else h.flights)
    by true y e = ap (λ (z : TtiTold). flight_in (sent_by from) h.lost z ∷ h.flights) e ∙ own from
    by false y e = refl

abbrev pub LastIs : Option BlockTold → Deed → Type 0
LastIs None d = d ≡ Waited
LastIs (Some b) d = (good : Bool) × (d ≡ told_deed b.fresh b.version b.octets good)

none_deed : (lost asleep : Bool) (air : Option AirTold) → (flight_of lost asleep None air).deed ≡ Waited
none_deed lost true None = refl
none_deed lost false None = refl
none_deed lost true (Some a) = by a.heard
  where
    by : (heard : Option Bool)
        → (landing (Some (record { what = a.what; heard = heard })) (dozing true (idle lost))).deed ≡ Waited
    by None = refl
    by (Some good) = refl
none_deed lost false (Some a) = by a.heard
  where
    by : (heard : Option Bool)
        → (landing (Some (record { what = a.what; heard = heard })) (dozing false (idle lost))).deed ≡ Waited
    by None = refl
    by (Some good) = refl

some_deed : (lost asleep fresh : Bool) (p version : ℕ) (octets : List ℕ) (air : Option AirTold)
    → (good : Bool)
    × ((flight_of lost asleep (Some (block_told p fresh version octets)) air).deed
    ≡ told_deed fresh version octets good)
some_deed lost true true p version octets None = (false, refl)
some_deed lost true false p version octets None = (false, refl)
some_deed lost false true p version octets None = (false, refl)
some_deed lost false false p version octets None = (false, refl)
some_deed lost asleep fresh p version octets (Some a) = by asleep fresh a.heard
  where
    by : (asleep fresh : Bool) (heard : Option Bool)
        → (good : Bool)
        × ((flight_of lost asleep (Some (block_told p fresh version octets))
        (Some (record { what = a.what; heard = heard }))).deed ≡ told_deed fresh version octets good)
    by true true None = (false, refl)
    by true false None = (false, refl)
    by false true None = (false, refl)
    by false false None = (false, refl)
    by true true (Some good) = (good, refl)
    by true false (Some good) = (good, refl)
    by false true (Some good) = (good, refl)
    by false false (Some good) = (good, refl)

pub deed_is : (lost asleep : Bool) (block : Option BlockTold) (air : Option AirTold)
    → LastIs block (flight_of lost asleep block air).deed
deed_is lost asleep None air = none_deed lost asleep air
deed_is lost asleep (Some b) air = some_deed lost asleep b.fresh b.process b.version b.octets air

-- what was right before
pub rest_right : (m : ℕ) (d : Deed) (ds : List Deed) → AreResent m (d ∷ ds) → AreResent m ds
rest_right m Waited ds h = h
rest_right m (Built octets good) ds h = h
rest_right m (Resent version octets good) ds h = h.1

-- one that is sent again
again_is : (m version : ℕ) (octets : List ℕ) (good fresh : Bool) (ds : List Deed) → fresh ≡ false
    → AreResent m (told_deed fresh version octets good ∷ ds) → last_block ds ≡ Some octets
again_is m version octets good true ds e h = no (sym e)
again_is m version octets good false ds e h = h.0.same_octets

again_by : (m : ℕ) (block : Option BlockTold) (d : Deed) (ds : List Deed) → LastIs block d → AreResent m (d ∷ ds)
    → (b : BlockTold) → block ≡ Some b → b.fresh ≡ false → last_block ds ≡ Some b.octets
again_by m None d ds is h b e old = absurd (no_block b e)
again_by m (Some c) d ds is h b e old =
    let same : c ≡ b = cc in
    let fresh : c.fresh ≡ false = ap (λ (x : BlockTold). x.fresh) same ∙ old in
    again_is m c.version c.octets is.0 c.fresh ds fresh (subst (λ (x : Deed). AreResent m (x ∷ ds)) is.1 h)
    ∙ ap (λ (x : BlockTold). Some x.octets) same

-- the last new block
last_is : (block : Option BlockTold) (d : Deed) (ds : List Deed) (own : List ℕ) (p : ℕ) (f : Blocks)
    → LastIs block d → ((b : BlockTold) → block ≡ Some b → b.process ≡ p)
    → ((octets : List ℕ) → last_block ds ≡ Some octets → f p ≡ Some octets) → last_block (d ∷ ds) ≡ Some own
    → blocks_with block f p ≡ Some own
last_is None d ds own p f is at known e =
    known own (sym (ap (λ (x : Deed). last_block (x ∷ ds)) is) ∙ e)
last_is (Some b) d ds own p f is at known e =
    by b.fresh (sym (ap (λ (x : Deed). last_block (x ∷ ds)) is.1) ∙ e)
  where
    by : (fresh : Bool) → last_block (told_deed fresh b.version b.octets is.0 ∷ ds) ≡ Some own
        → (if fresh then (if p == b.process then Some b.octets else f p) else f p) ≡ Some own
    by true k =
        ap (λ (c : Bool). if c then Some b.octets else f p) (eq-eqb p b.process (sym (at b refl))) ∙ k
    by false k = known own k

elsewhere_is : (block : Option BlockTold) (p q : ℕ) (f : Blocks) → ((b : BlockTold) → block ≡ Some b → b.process ≡ p)
    → (q == p) ≡ false → blocks_with block f q ≡ f q
elsewhere_is None p q f at apart = refl
elsewhere_is (Some b) p q f at apart =
    by b.fresh (ap (λ (n : ℕ). q == n) (at b refl) ∙ apart)
  where
    by : (fresh : Bool) → (q == b.process) ≡ false
        → (if fresh then (if q == b.process then Some b.octets else f q) else f q) ≡ f q
    by true e = ap (λ (c : Bool). if c then Some b.octets else f q) e
    by false e = refl

-- ---- a TTI

abbrev pub Processes : Type 0
Processes = ℕ → Heard

abbrev pub behind : Side → List Record → Processes → Processes
behind from told hs p = heard (sent_by from) p told (hs p)

-- the last new block of each process is known
abbrev pub Knows : Processes → Blocks → Type 0
Knows hs f = (p : ℕ) (octets : List ℕ) → p < 8 → last_block (deeds_of (hs p).flights) ≡ Some octets → f p ≡ Some octets

abbrev pub AllResent : ℕ → Processes → Type 0
AllResent m hs = (p : ℕ) → p < 8 → AreResent m (deeds_of (hs p).flights)

pub way_is : (from : Side) (t : ℕ) (told : List Record) → (h : IsTtiTold t told) → IsWay t (way_of from h.down h.up)
way_is Nb t told h = h.down_is
way_is Ue t told h = h.up_is

abbrev pub flights_by : Side → ℕ → ℕ → Bool → WayTold → WayTold → Heard → Bool → List Flight
flights_by from p t asleep down up h b =
    if b then flight_of h.lost asleep (way_of from down up).block (way_of from down up).air ∷ h.flights else h.flights

pub flights_are : (from : Side) (t : ℕ) (told : List Record) (i : IsTtiTold t told) (hs : Processes) (p : ℕ)
    → (behind from told hs p).flights ≡ flights_by from p t i.asleep i.down i.up (hs p) (p == t % 8)
flights_are from t told i hs p =
    ap (λ (l : List Record). (heard (sent_by from) p l (hs p)).flights) i.told_is
    ∙ flights_told from p t i.flown i.asleep i.down i.up (hs p) i.of_air i.kinds

pub tti_back : (from : Side) (m t : ℕ) (told : List Record) → IsTtiTold t told → (hs : Processes)
    → AllResent m (behind from told hs) → AllResent m hs
tti_back from m t told i hs all p low =
    by (p == t % 8)
    (subst (λ (fs : List Flight). AreResent m (deeds_of fs)) (flights_are from t told i hs p) (all p low))
  where
    by : (b : Bool) → AreResent m (deeds_of (flights_by from p t i.asleep i.down i.up (hs p) b))
        → AreResent m (deeds_of (hs p).flights)
    by true h = rest_right m _ (deeds_of (hs p).flights) h
    by false h = h

pub record IsTtiFlown (from : Side) (told : List Record) (hs : Processes) (x : Flying) : Type 0 where
  pub flown : AreSent from told x
  pub knows : Knows (behind from told hs) (all_air from told x).blocks

pub tti_flown : (from : Side) (m t : ℕ) (told : List Record) → IsTtiTold t told → (hs : Processes) (x : Flying)
    → Knows hs x.blocks → AllResent m (behind from told hs) → IsTtiFlown from told hs x
tti_flown from m t told i hs x knows all =
    let w : WayTold = way_of from i.down i.up in
    let is = way_is from t told i in
    let p : ℕ = t % 8 in
    let low : t % 8 < 8 = omega arith in
    let test : (t % 8 == t % 8) ≡ true = eq-eqb (t % 8) (t % 8) refl in
    let here = subst (λ (fs : List Flight). AreResent m (deeds_of fs))
    (flights_are from t told i hs (t % 8) ∙ ap (flights_by from (t % 8) t i.asleep i.down i.up (hs (t % 8))) test)
    (all (t % 8) low) in
    let last = deed_is (hs (t % 8)).lost i.asleep (way_of from i.down i.up).block (way_of from i.down i.up).air in
    let again : Again (way_of from i.down i.up).block x.blocks = λ b e old. knows b.process b.octets
    (omega (arith, is.process b e))
    (ap (λ (q : ℕ). last_block (deeds_of (hs q).flights)) (is.process b e)
    ∙ again_by m (way_of from i.down i.up).block _ (deeds_of (hs (t % 8)).flights) last here b e old) in
    let f = tti_first from t i.flown x (blocks_with (way_of from i.down i.up).block x.blocks)
    (ways_flown from t i.flown i.asleep i.down i.up x i.kinds is again) in
    let g = subst (λ (l : List Record). IsFlownWay from l x (blocks_with (way_of from i.down i.up).block x.blocks))
    (sym i.told_is) f in
    record {
      flown = g.flown;
      knows = λ q octets lt e. g.blocks_are q ∙ by q octets lt (q == t % 8) refl
          (sym (ap (λ (fs : List Flight). last_block (deeds_of fs)) (flights_are from t told i hs q)) ∙ e);
    }
  where
    by : (q : ℕ) (octets : List ℕ) → q < 8 → (b : Bool) → (q == t % 8) ≡ b
        → last_block (deeds_of (flights_by from q t i.asleep i.down i.up (hs q) b)) ≡ Some octets
        → blocks_with (way_of from i.down i.up).block x.blocks q ≡ Some octets
    by q octets lt true e k =
        last_is (way_of from i.down i.up).block _ (deeds_of (hs q).flights) octets q x.blocks
        (deed_is (hs q).lost i.asleep (way_of from i.down i.up).block (way_of from i.down i.up).air)
        (λ b f. (way_is from t told i).process b f ∙ sym (eqb-true q (t % 8) e)) (λ own known. knows q own lt known) k
    by q octets lt false e k =
        elsewhere_is (way_of from i.down i.up).block (t % 8) q x.blocks (way_is from t told i).process e
        ∙ knows q octets lt k

-- ---- several TTIs

pub heard_behind : (from : Side) (xs ys : List Record) (hs : Processes) (p : ℕ)
    → behind from (xs ++ ys) hs p ≡ behind from ys (behind from xs hs) p
heard_behind from xs ys hs p = heard_append (sent_by from) p xs ys (hs p)

pub resent_same : (m : ℕ) (hs gs : Processes) → ((p : ℕ) → hs p ≡ gs p) → AllResent m hs → AllResent m gs
resent_same m hs gs same h p low = subst (λ (k : Heard). AreResent m (deeds_of k.flights)) (same p) (h p low)

knows_same : (hs gs : Processes) (f : Blocks) → ((p : ℕ) → hs p ≡ gs p) → Knows hs f → Knows gs f
knows_same hs gs f same h p octets low e =
    h p octets low (ap (λ (k : Heard). last_block (deeds_of k.flights)) (same p) ∙ e)

pub ttis_back : (from : Side) (m : ℕ) (Each : ℕ → List Record → Type 0)
    → ((n : ℕ) (told : List Record) → Each n told → IsTtiTold n told) → (t count : ℕ) (told : List Record)
    → InTurn Each t count told → (hs : Processes) → AllResent m (behind from told hs) → AllResent m hs
ttis_back from m Each each t zero told h hs all =
    subst (λ (l : List Record). AllResent m (behind from l hs)) h all
ttis_back from m Each each t (suc n) told h hs all =
    tti_back from m t h.first (each t h.first h.is_first) hs
    (ttis_back from m Each each (t + 1) n h.second h.is_second (behind from h.first hs)
    (resent_same m (behind from (h.first ++ h.second) hs) (behind from h.second (behind from h.first hs))
    (heard_behind from h.first h.second hs)
    (subst (λ (l : List Record). AllResent m (behind from l hs)) h.told_are all)))

pub ttis_flown : (from : Side) (m : ℕ) (Each : ℕ → List Record → Type 0)
    → ((n : ℕ) (told : List Record) → Each n told → IsTtiTold n told) → (t count : ℕ) (told : List Record)
    → InTurn Each t count told → (hs : Processes) (x : Flying) → Knows hs x.blocks
    → AllResent m (behind from told hs) → IsTtiFlown from told hs x
ttis_flown from m Each each t zero told h hs x knows all =
    subst (λ (l : List Record). IsTtiFlown from l hs x) (sym h) (record { flown = tt; knows = knows })
ttis_flown from m Each each t (suc n) told h hs x knows all =
    let rest = resent_same m (behind from (h.first ++ h.second) hs) (behind from h.second (behind from h.first hs))
    (heard_behind from h.first h.second hs)
    (subst (λ (l : List Record). AllResent m (behind from l hs)) h.told_are all) in
    let here = ttis_back from m Each each (t + 1) n h.second h.is_second (behind from h.first hs) rest in
    let one = tti_flown from m t h.first (each t h.first h.is_first) hs x knows here in
    let more = ttis_flown from m Each each (t + 1) n h.second h.is_second (behind from h.first hs)
    (all_air from h.first x) one.knows rest in
    subst (λ (l : List Record). IsTtiFlown from l hs x) (sym h.told_are)
    (record {
      flown = flown_both from h.first h.second x one.flown more.flown;
      knows = knows_same (behind from h.second (behind from h.first hs)) (behind from (h.first ++ h.second) hs)
          (all_air from (h.first ++ h.second) x).blocks (λ p. sym (heard_behind from h.first h.second hs p))
          (subst (λ (y : Flying). Knows (behind from h.second (behind from h.first hs)) y.blocks)
          (sym (air_both from h.first h.second x)) more.knows);
    })

-- ---- what tells nothing of the time

pub flown_filtered : (from : Side) (told : List Record) (x : Flying) → AreSent from (filter is_of_time told) x
    → AreSent from told x
flown_filtered from [] x h = tt
flown_filtered from (records.Line number line ∷ told) x h = (tt, flown_filtered from told x h.1)
flown_filtered from (records.Tti t ∷ told) x h = (tt, flown_filtered from told x h.1)
flown_filtered from (records.Sleep ∷ told) x h = (tt, flown_filtered from told x h.1)
flown_filtered from (records.Block way p true version octets ∷ told) x h =
    (h.0, flown_filtered from told (after_air from (records.Block way p true version octets) x) h.1)
flown_filtered from (records.Block way p false version octets ∷ told) x h =
    (h.0, flown_filtered from told (after_air from (records.Block way p false version octets) x) h.1)
flown_filtered from (records.Air way what good ∷ told) x h = (h.0, flown_filtered from told x h.1)
flown_filtered from (one ∷ told) x h = (tt, flown_filtered from told x h)

pub air_filtered : (from : Side) (told : List Record) (x : Flying)
    → all_air from told x ≡ all_air from (filter is_of_time told) x
air_filtered from [] x = refl
air_filtered from (records.Line number line ∷ told) x = air_filtered from told x
air_filtered from (records.Tti t ∷ told) x = air_filtered from told x
air_filtered from (records.Sleep ∷ told) x = air_filtered from told x
air_filtered from (records.Block way p true version octets ∷ told) x =
    air_filtered from told (after_air from (records.Block way p true version octets) x)
air_filtered from (records.Block way p false version octets ∷ told) x =
    air_filtered from told (after_air from (records.Block way p false version octets) x)
air_filtered from (records.Air way what good ∷ told) x = air_filtered from told x
air_filtered from (one ∷ told) x = air_filtered from told x

pub heard_filtered : (way : Direction) (p : ℕ) (told : List Record) (h : Heard)
    → heard way p told h ≡ heard way p (filter is_of_time told) h
heard_filtered way p [] h = refl
heard_filtered way p (records.Line number line ∷ told) h =
    heard_filtered way p told (hears way p (records.Line number line) h)
heard_filtered way p (records.Tti t ∷ told) h = heard_filtered way p told (hears way p (records.Tti t) h)
heard_filtered way p (records.Sleep ∷ told) h = heard_filtered way p told (hears way p records.Sleep h)
heard_filtered way p (records.Block d process fresh version octets ∷ told) h =
    heard_filtered way p told (hears way p (records.Block d process fresh version octets) h)
heard_filtered way p (records.Air d what good ∷ told) h =
    heard_filtered way p told (hears way p (records.Air d what good) h)
heard_filtered way p (one ∷ told) h = heard_filtered way p told h

-- What is told of a TTI, gathered record by record, is in order exactly where its records, kind by
-- kind, are those of what was gathered; and what these are to the past of each process.
use Rattle.std.proofs.Common.{◌≡◌, ℕ, Bool, true, false, not, ◌&&◌, ◌==◌, ◌%◌, if◌then◌else◌, Option, Some, None}
use Rattle.std.proofs.Common.{is_none, is_some}
use Rattle.std.proofs.Common.{List, [], ◌∷◌, ◌++◌, refl, ap, sym, ◌∙◌, append_assoc, append-nil}
use Rattle.std.proofs.lemmas.Bool.{and_parts, and_from}
use Rattle.std.proofs.lemmas.List.Elements.{filter-append}
use Rattle.std.specs.List.{filter, list_all, AllByRecursion}
use Rattle.air_record.specs.declared.record.Record.{Record}
use Rattle.air_record.specs.declared.record.Record.TheVariants as records
use Rattle.mac_pdu.specs.declared.item.Direction.{Direction}
use Rattle.mac_pdu.specs.declared.item.Direction.TheVariants.{Down, Up}
use Rattle.promises.specs.Air.{sleeping}
use Rattle.promises.specs.Records.{is_of_air}
use Rattle.promises.specs.RightAir.{is_toward}
use Rattle.promises.specs.Sleeps.{is_sleep}
use Rattle.promises.specs.Heard.{Heard, Flight, hears, heard, idle, sleeps, lands}
use Rattle.promises.specs.Heard.{sent as sent_out}
use Rattle.journal_air.specs.Told.{BlockTold, AirTold, WayTold, TtiTold, block_told, no_way, blank_tti, put_block}
use Rattle.journal_air.specs.Told.{put_air, tells_sleep, tells_block, tells_air, block_records, air_records}
use Rattle.journal_air.specs.Told.{way_records}
use Rattle.journal_air.proofs.Visits.{flight_of}

-- ---- record by record

abbrev pub told_with : Record → TtiTold → TtiTold
told_with records.Sleep x = tells_sleep x
told_with (records.Block d process fresh version octets) x =
    tells_block d (block_told process fresh version octets) x
told_with (records.Air d what heard) x = tells_air d (record { what = what; heard = heard }) x
told_with one x = x

abbrev pub told_all : List Record → TtiTold → TtiTold
told_all [] x = x
told_all (one ∷ told) x = told_all told (told_with one x)

abbrev pub AllAir : List Record → Type 0
AllAir told = AllByRecursion (λ one. is_of_air one ≡ true) told

pub all_air : (l : List Record) → list_all is_of_air l ≡ true → AllAir l
all_air [] e = tt
all_air (one ∷ l) e =
    let both = and_parts (is_of_air one) (list_all is_of_air l) e in
    (both.0, all_air l both.1)

pub air_all : (l : List Record) → AllAir l → list_all is_of_air l ≡ true
air_all [] air = refl
air_all (one ∷ l) air = and_from (is_of_air one) (list_all is_of_air l) air.0 (air_all l air.1)

first_of : (a b : Bool) → (a && b) ≡ true → a ≡ true
first_of a b e = (and_parts a b e).0

second_of : (a b : Bool) → (a && b) ≡ true → b ≡ true
second_of a b e = (and_parts a b e).1

-- once out of its order, always so
still : (one : Record) (x : TtiTold) → (told_with one x).in_order ≡ true → x.in_order ≡ true
still records.Sleep x e = first_of _ _ e
still (records.Block Down process fresh version octets) x e = first_of _ _ e
still (records.Block Up process fresh version octets) x e = first_of _ _ e
still (records.Air Down what heard) x e = first_of _ _ e
still (records.Air Up what heard) x e = first_of _ _ e
still one x e = e

told_order : (told : List Record) (x : TtiTold) → (told_all told x).in_order ≡ true → x.in_order ≡ true
told_order [] x e = e
told_order (one ∷ told) x e = still one x (told_order told (told_with one x) e)

-- ---- what was gathered has the records, kind by kind

abbrev pub way_in : Direction → TtiTold → WayTold
way_in Down x = x.down
way_in Up x = x.up

sleep_last : (asleep : Bool) → not asleep ≡ true → sleeping true ≡ sleeping asleep ++ records.Sleep ∷ []
sleep_last true e = absurd cc
sleep_last false e = refl

sleep_step : (one : Record) (x : TtiTold) → (told_with one x).in_order ≡ true
    → sleeping (told_with one x).asleep ≡ sleeping x.asleep ++ filter is_sleep (one ∷ [])
sleep_step records.Sleep x e = sleep_last x.asleep (second_of x.in_order (not x.asleep) e)
sleep_step (records.Block Down process fresh version octets) x e = sym (append-nil (sleeping x.asleep))
sleep_step (records.Block Up process fresh version octets) x e = sym (append-nil (sleeping x.asleep))
sleep_step (records.Air Down what heard) x e = sym (append-nil (sleeping x.asleep))
sleep_step (records.Air Up what heard) x e = sym (append-nil (sleeping x.asleep))
sleep_step one x e = sym (append-nil (sleeping x.asleep))

block_first : (d : Direction) (one : Record) (b : Option BlockTold) (a : Option AirTold)
    → (is_none b && is_none a) ≡ true
    → one ∷ [] ++ air_records d a ≡ (block_records d b ++ air_records d a) ++ one ∷ []
block_first d one None None e = refl
block_first d one None (Some a) e = absurd cc
block_first d one (Some b) a e = absurd cc

air_last : (d : Direction) (one : Record) (b : List Record) (a : Option AirTold) → not (is_some a) ≡ true
    → b ++ one ∷ [] ≡ (b ++ air_records d a) ++ one ∷ []
air_last d one b None e = ap (λ (l : List Record). l ++ one ∷ []) (sym (append-nil b))
air_last d one b (Some a) e = absurd cc

way_step : (d : Direction) (one : Record) (x : TtiTold) → (told_with one x).in_order ≡ true
    → way_records d (way_in d (told_with one x)) ≡ way_records d (way_in d x) ++ filter (is_toward d) (one ∷ [])
way_step Down (records.Block Down process fresh version octets) x e =
    block_first Down (records.Block Down process fresh version octets) x.down.block x.down.air
    (second_of x.in_order _ e)
way_step Down (records.Block Up process fresh version octets) x e = sym (append-nil (way_records Down x.down))
way_step Down (records.Air Down what heard) x e =
    air_last Down (records.Air Down what heard) (block_records Down x.down.block) x.down.air (second_of x.in_order _ e)
way_step Down (records.Air Up what heard) x e = sym (append-nil (way_records Down x.down))
way_step Down one x e = sym (append-nil (way_records Down x.down))
way_step Up (records.Block Down process fresh version octets) x e = sym (append-nil (way_records Up x.up))
way_step Up (records.Block Up process fresh version octets) x e =
    block_first Up (records.Block Up process fresh version octets) x.up.block x.up.air (second_of x.in_order _ e)
way_step Up (records.Air Down what heard) x e = sym (append-nil (way_records Up x.up))
way_step Up (records.Air Up what heard) x e =
    air_last Up (records.Air Up what heard) (block_records Up x.up.block) x.up.air (second_of x.in_order _ e)
way_step Up one x e = sym (append-nil (way_records Up x.up))

-- a record more of a kind
more_of : (kind : Record → Bool) (before now : List Record) (one : Record) (told : List Record)
    → now ≡ before ++ filter kind (one ∷ []) → now ++ filter kind told ≡ before ++ filter kind (one ∷ told)
more_of kind before now one told e =
    ap (λ (l : List Record). l ++ filter kind told) e
    ∙ append_assoc before (filter kind (one ∷ [])) (filter kind told)
    ∙ ap (λ (l : List Record). before ++ l) (sym (filter-append kind (one ∷ []) told))

sleeps_from : (told : List Record) (x : TtiTold) → (told_all told x).in_order ≡ true
    → sleeping (told_all told x).asleep ≡ sleeping x.asleep ++ filter is_sleep told
sleeps_from [] x e = sym (append-nil (sleeping x.asleep))
sleeps_from (one ∷ told) x e =
    let y = told_with one x in
    sleeps_from told y e
    ∙ more_of is_sleep (sleeping x.asleep) (sleeping y.asleep) one told (sleep_step one x (told_order told y e))

ways_from : (d : Direction) (told : List Record) (x : TtiTold) → (told_all told x).in_order ≡ true
    → way_records d (way_in d (told_all told x)) ≡ way_records d (way_in d x) ++ filter (is_toward d) told
ways_from d [] x e = sym (append-nil (way_records d (way_in d x)))
ways_from d (one ∷ told) x e =
    let y = told_with one x in
    ways_from d told y e
    ∙ more_of (is_toward d) (way_records d (way_in d x)) (way_records d (way_in d y)) one told
    (way_step d one x (told_order told y e))

-- told in order: these are the records of each kind
pub record KindsAre (told : List Record) (asleep : Bool) (down up : WayTold) : Type 0 where
  pub sleeps_is : filter is_sleep told ≡ sleeping asleep
  pub down_is : filter (is_toward Down) told ≡ way_records Down down
  pub up_is : filter (is_toward Up) told ≡ way_records Up up

pub kinds_are : (told : List Record) → (told_all told blank_tti).in_order ≡ true
    → KindsAre told (told_all told blank_tti).asleep (told_all told blank_tti).down (told_all told blank_tti).up
kinds_are told e = record {
  sleeps_is = sym (sleeps_from told blank_tti e);
  down_is = sym (ways_from Down told blank_tti e);
  up_is = sym (ways_from Up told blank_tti e);
}

-- ---- and the records of each kind give back what has them

awake_before : (now before : Bool) (more : List Record) → sleeping now ≡ sleeping before ++ records.Sleep ∷ more
    → not before ≡ true
awake_before now false more e = refl
awake_before true true more e = absurd cc
awake_before false true more e = absurd cc

-- at most a block and what came of it, in this order
abbrev is_landing : List Record → Bool
is_landing [] = true
is_landing (records.Air d what heard ∷ []) = true
is_landing l = false

abbrev is_way : List Record → Bool
is_way (records.Block d process fresh version octets ∷ l) = is_landing l
is_way l = is_landing l

way_is : (d : Direction) (b : Option BlockTold) (a : Option AirTold)
    → is_way (block_records d b ++ air_records d a) ≡ true
way_is d None None = refl
way_is d None (Some a) = refl
way_is d (Some b) None = refl
way_is d (Some b) (Some a) = refl

-- so nothing stands before a block, and nothing that landed before what comes
blank_before : (d : Direction) (p : ℕ) (f : Bool) (v : ℕ) (o : List ℕ) (b : Option BlockTold) (a : Option AirTold)
    (more : List Record)
    → is_way ((block_records d b ++ air_records d a) ++ records.Block d p f v o ∷ more) ≡ true
    → (is_none b && is_none a) ≡ true
blank_before d p f v o None None more e = refl
blank_before d p f v o None (Some a) more e = absurd cc
blank_before d p f v o (Some b) None more e = absurd cc
blank_before d p f v o (Some b) (Some a) more e = absurd cc

not_landed : (d : Direction) (one : Record) (b : Option BlockTold) (a : Option AirTold) (more : List Record)
    → is_way ((block_records d b ++ air_records d a) ++ one ∷ more) ≡ true → not (is_some a) ≡ true
not_landed d one b None more e = refl
not_landed d one None (Some a) more e = absurd cc
not_landed d one (Some b) (Some a) more e = absurd cc

-- what is told from here on brings it to this
record Brings (told : List Record) (x : TtiTold) (asleep : Bool) (down up : WayTold) : Type 0 where
  sleeps_is : sleeping asleep ≡ sleeping x.asleep ++ filter is_sleep told
  down_is : way_records Down down ≡ way_records Down x.down ++ filter (is_toward Down) told
  up_is : way_records Up up ≡ way_records Up x.up ++ filter (is_toward Up) told

still_way : (d : Direction) (w : WayTold) (l : List Record) → way_records d w ≡ l → is_way l ≡ true
still_way d w l e = ap is_way (sym e) ∙ way_is d w.block w.air

next_order : (one : Record) (told : List Record) (x : TtiTold) (asleep : Bool) (down up : WayTold)
    → x.in_order ≡ true → Brings (one ∷ told) x asleep down up → (told_with one x).in_order ≡ true
next_order records.Sleep told x asleep down up i h =
    and_from x.in_order _ i (awake_before asleep x.asleep (filter is_sleep told) h.sleeps_is)
next_order (records.Block Down p f v o) told x asleep down up i h =
    and_from x.in_order _ i
    (blank_before Down p f v o x.down.block x.down.air (filter (is_toward Down) told) (still_way Down down _ h.down_is))
next_order (records.Block Up p f v o) told x asleep down up i h =
    and_from x.in_order _ i
    (blank_before Up p f v o x.up.block x.up.air (filter (is_toward Up) told) (still_way Up up _ h.up_is))
next_order (records.Air Down what heard) told x asleep down up i h =
    and_from x.in_order _ i
    (not_landed Down (records.Air Down what heard) x.down.block x.down.air (filter (is_toward Down) told)
    (still_way Down down _ h.down_is))
next_order (records.Air Up what heard) told x asleep down up i h =
    and_from x.in_order _ i
    (not_landed Up (records.Air Up what heard) x.up.block x.up.air (filter (is_toward Up) told)
    (still_way Up up _ h.up_is))
next_order one told x asleep down up i h = i

brought : (told : List Record) (x : TtiTold) (asleep : Bool) (down up : WayTold) → x.in_order ≡ true
    → Brings told x asleep down up → (told_all told x).in_order ≡ true
brought [] x asleep down up i h = i
brought (one ∷ told) x asleep down up i h =
    let y = told_with one x in
    let next = next_order one told x asleep down up i h in
    brought told y asleep down up next (record {
      sleeps_is = h.sleeps_is
          ∙ sym (more_of is_sleep (sleeping x.asleep) (sleeping y.asleep) one told (sleep_step one x next));
      down_is = h.down_is
          ∙ sym (more_of (is_toward Down) (way_records Down x.down) (way_records Down y.down) one told
          (way_step Down one x next));
      up_is = h.up_is
          ∙ sym (more_of (is_toward Up) (way_records Up x.up) (way_records Up y.up) one told (way_step Up one x next));
    })

same_sleep : (a b : Bool) → sleeping a ≡ sleeping b → a ≡ b
same_sleep true true e = refl
same_sleep true false e = absurd cc
same_sleep false true e = absurd cc
same_sleep false false e = refl

abbrev put_back : Record → WayTold → WayTold
put_back (records.Block d process fresh version octets) w = put_block (block_told process fresh version octets) w
put_back (records.Air d what heard) w = put_air (record { what = what; heard = heard }) w
put_back one w = w

abbrev way_of : List Record → WayTold
way_of [] = no_way
way_of (one ∷ l) = put_back one (way_of l)

way_of_is : (d : Direction) (b : Option BlockTold) (a : Option AirTold)
    → way_of (block_records d b ++ air_records d a) ≡ record { block = b; air = a }
way_of_is d None None = refl
way_of_is d None (Some a) = refl
way_of_is d (Some b) None = refl
way_of_is d (Some b) (Some a) = refl

same_way : (d : Direction) (w v : WayTold) → way_records d w ≡ way_records d v → w ≡ v
same_way d w v e = sym (way_of_is d w.block w.air) ∙ ap way_of e ∙ way_of_is d v.block v.air

abbrev pub gathered : Bool → WayTold → WayTold → TtiTold
gathered asleep down up = record { in_order = true; asleep = asleep; down = down; up = up }

gathered_is : (x : TtiTold) (asleep : Bool) (down up : WayTold) → x.in_order ≡ true → x.asleep ≡ asleep
    → x.down ≡ down → x.up ≡ up → x ≡ gathered asleep down up
gathered_is x asleep down up i s d u =
    let with_order : Bool → TtiTold = λ y. record { in_order = y; asleep = x.asleep; down = x.down; up = x.up } in
    ap with_order i ∙ ap (λ (y : Bool). gathered y x.down x.up) s ∙ ap (λ (y : WayTold). gathered asleep y x.up) d
    ∙ ap (gathered asleep down) u

pub gives_back : (told : List Record) (asleep : Bool) (down up : WayTold) → KindsAre told asleep down up
    → told_all told blank_tti ≡ gathered asleep down up
gives_back told asleep down up k =
    let x = told_all told blank_tti in
    let e = brought told blank_tti asleep down up refl
    (record { sleeps_is = sym k.sleeps_is; down_is = sym k.down_is; up_is = sym k.up_is }) in
    gathered_is x asleep down up e
    (same_sleep x.asleep asleep (sleeps_from told blank_tti e ∙ k.sleeps_is))
    (same_way Down x.down down (ways_from Down told blank_tti e ∙ k.down_is))
    (same_way Up x.up up (ways_from Up told blank_tti e ∙ k.up_is))

-- ---- what the records are to a process

pub heard_append : (d : Direction) (p : ℕ) (a b : List Record) (h : Heard)
    → heard d p (a ++ b) h ≡ heard d p b (heard d p a h)
heard_append d p [] b h = refl
heard_append d p (one ∷ a) b h = heard_append d p a b (hears d p one h)

abbrev pub hearing : Bool → Bool → List Flight → Heard
hearing lost here l = record { lost = lost; here = here; flights = l }

-- one that isn't visited
elsewhere : (d : Direction) (p : ℕ) (one : Record) (lost : Bool) (l : List Flight) → is_of_air one ≡ true
    → hears d p one (hearing lost false l) ≡ hearing lost false l
elsewhere d p records.Sleep lost l e = refl
elsewhere d p (records.Block way' process fresh version octets) lost l e = refl
elsewhere d p (records.Air way' what good) lost l e = refl
elsewhere d p one lost l e = absurd cc

all_elsewhere : (d : Direction) (p : ℕ) (told : List Record) (lost : Bool) (l : List Flight) → AllAir told
    → heard d p told (hearing lost false l) ≡ hearing lost false l
all_elsewhere d p [] lost l air = refl
all_elsewhere d p (one ∷ told) lost l air =
    ap (heard d p told) (elsewhere d p one lost l air.0) ∙ all_elsewhere d p told lost l air.1

-- one that is: its visit, of what was gathered
abbrev pub flight_in : Direction → Bool → TtiTold → Flight
flight_in d lost x = flight_of lost x.asleep (way_in d x).block (way_in d x).air

sent_sleeps : (fresh : Bool) (version : ℕ) (octets : List ℕ) (f : Flight)
    → sleeps (sent_out fresh version octets f) ≡ sent_out fresh version octets (sleeps f)
sent_sleeps true version octets f = refl
sent_sleeps false version octets f = refl

dozes : (lost asleep : Bool) (b : Option BlockTold) (a : Option AirTold) → not asleep ≡ true
    → sleeps (flight_of lost asleep b a) ≡ flight_of lost true b a
dozes lost true b a e = absurd cc
dozes lost false None None e = refl
dozes lost false None (Some a) e = refl
dozes lost false (Some b) None e = sent_sleeps b.fresh b.version b.octets (idle lost)
dozes lost false (Some b) (Some a) e =
    ap (lands a.what a.heard) (sent_sleeps b.fresh b.version b.octets (idle lost))

goes_out : (lost asleep : Bool) (block : BlockTold) (b : Option BlockTold) (a : Option AirTold)
    → (is_none b && is_none a) ≡ true
    → sent_out block.fresh block.version block.octets (flight_of lost asleep b a)
    ≡ flight_of lost asleep (Some block) a
goes_out lost asleep block None None e = refl
goes_out lost asleep block None (Some a) e = absurd cc
goes_out lost asleep block (Some b) a e = absurd cc

comes : (lost asleep : Bool) (air : AirTold) (b : Option BlockTold) (a : Option AirTold) → not (is_some a) ≡ true
    → lands air.what air.heard (flight_of lost asleep b a) ≡ flight_of lost asleep b (Some air)
comes lost asleep air b None e = refl
comes lost asleep air b (Some a) e = absurd cc

hears_step : (d : Direction) (p : ℕ) (one : Record) (lost : Bool) (x : TtiTold) (l : List Flight)
    → is_of_air one ≡ true → (told_with one x).in_order ≡ true
    → hears d p one (hearing lost true (flight_in d lost x ∷ l))
    ≡ hearing lost true (flight_in d lost (told_with one x) ∷ l)
hears_step Down p records.Sleep lost x l air e =
    ap (λ (f : Flight). hearing lost true (f ∷ l))
    (dozes lost x.asleep x.down.block x.down.air (second_of x.in_order (not x.asleep) e))
hears_step Down p (records.Block Down process fresh version octets) lost x l air e =
    ap (λ (f : Flight). hearing lost true (f ∷ l))
    (goes_out lost x.asleep (record { process = process; fresh = fresh; version = version; octets = octets })
    x.down.block x.down.air (second_of x.in_order _ e))
hears_step Down p (records.Block Up process fresh version octets) lost x l air e = refl
hears_step Down p (records.Air Down what good) lost x l air e =
    ap (λ (f : Flight). hearing lost true (f ∷ l))
    (comes lost x.asleep (record { what = what; heard = good }) x.down.block x.down.air (second_of x.in_order _ e))
hears_step Down p (records.Air Up what good) lost x l air e = refl
hears_step Up p records.Sleep lost x l air e =
    ap (λ (f : Flight). hearing lost true (f ∷ l))
    (dozes lost x.asleep x.up.block x.up.air (second_of x.in_order (not x.asleep) e))
hears_step Up p (records.Block Down process fresh version octets) lost x l air e = refl
hears_step Up p (records.Block Up process fresh version octets) lost x l air e =
    ap (λ (f : Flight). hearing lost true (f ∷ l))
    (goes_out lost x.asleep (record { process = process; fresh = fresh; version = version; octets = octets })
    x.up.block x.up.air (second_of x.in_order _ e))
hears_step Up p (records.Air Down what good) lost x l air e = refl
hears_step Up p (records.Air Up what good) lost x l air e =
    ap (λ (f : Flight). hearing lost true (f ∷ l))
    (comes lost x.asleep (record { what = what; heard = good }) x.up.block x.up.air (second_of x.in_order _ e))
hears_step d p one lost x l air e = absurd cc

here : (d : Direction) (p : ℕ) (told : List Record) (lost : Bool) (x : TtiTold) (l : List Flight) → AllAir told
    → (told_all told x).in_order ≡ true
    → heard d p told (hearing lost true (flight_in d lost x ∷ l))
    ≡ hearing lost true (flight_in d lost (told_all told x) ∷ l)
here d p [] lost x l air e = refl
here d p (one ∷ told) lost x l air e =
    let y = told_with one x in
    ap (heard d p told) (hears_step d p one lost x l air.0 (told_order told y e)) ∙ here d p told lost y l air.1 e

blank_flight : (d : Direction) (lost : Bool) → idle lost ≡ flight_in d lost blank_tti
blank_flight Down lost = refl
blank_flight Up lost = refl

pub tti_heard : (d : Direction) (p t : ℕ) (told : List Record) (h : Heard) → AllAir told
    → (told_all told blank_tti).in_order ≡ true
    → heard d p (records.Tti t ∷ told) h
    ≡ (if p == t % 8 then hearing h.lost true (flight_in d h.lost (told_all told blank_tti) ∷ h.flights)
    else hearing h.lost false h.flights)
tti_heard d p t told h air e = by_test (p == t % 8)
  where
    by_test : (b : Bool)
        → heard d p told
        (if b then hearing h.lost true (idle h.lost ∷ h.flights) else hearing h.lost false h.flights)
        ≡ (if b then hearing h.lost true (flight_in d h.lost (told_all told blank_tti) ∷ h.flights)
        else hearing h.lost false h.flights)
    by_test true =
        ap (λ (f : Flight). heard d p told (hearing h.lost true (f ∷ h.flights))) (blank_flight d h.lost)
        ∙ here d p told h.lost blank_tti h.flights air e
    by_test false = all_elsewhere d p told h.lost h.flights air

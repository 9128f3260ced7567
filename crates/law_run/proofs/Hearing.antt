-- What the records of a TTI are to a HARQ process.
use Rattle.std.proofs.Common.{◌≡◌, ◌≤◌, ℕ, zero, suc, ◌%◌, ◌==◌, ◌⊎◌, arith, Bool, true, false, ◌||◌, cond, None, List}
use Rattle.std.proofs.Common.{[], ◌∷◌, ◌++◌, refl, ap, ◌∙◌, inl, inr}
use Rattle.std.specs.List.{filter}
use Rattle.air_record.specs.declared.line.Outcome.{Outcome}
use Rattle.air_record.specs.declared.record.Arrived.{Arrived}
use Rattle.air_record.specs.declared.record.Arrived.TheVariants as arriveds
use Rattle.air_record.specs.declared.record.Record.{Record}
use Rattle.air_record.specs.declared.record.Record.TheVariants as records
use Rattle.mac_pdu.specs.declared.item.Direction.{Direction}
use Rattle.mac_pdu.specs.declared.item.Direction.TheVariants.{Down, Up}
use Rattle.promises.specs.Records.{is_of_run, is_of_air}
use Rattle.law_run.specs.AnyCalls.Deeds.{deed_of, came_of}
use Rattle.promises.specs.Flights.{came, IsDown, FliesUp, IsUnanswered, IsUp}
use Rattle.promises.specs.Air.{sleeping}
use Rattle.promises.specs.Heard.{Flight, idle, Heard, hears, heard}

-- ---- records that tell a process nothing

ignored : (way : Direction) (p : ℕ) (one : Record) (h : Heard) → is_of_air one ≡ false → is_of_run one ≡ false
    → hears way p one h ≡ h
ignored way p (records.Line number line) h a r = cc
ignored way p (records.Tti tti) h a r = cc
ignored way p records.Sleep h a r = cc
ignored way p (records.Of side event) h a r = refl
ignored way p (records.Block direction process fresh rv octets) h a r = cc
ignored way p (records.Air direction what good) h a r = cc
ignored way p (records.Refused side lcid why) h a r = refl
ignored way p (records.Looped lcid octets) h a r = refl
ignored way p (records.Drained rounds) h a r = refl
ignored way p (records.Sum direction lcid submitted delivered state) h a r = refl
ignored way p records.MacFront h a r = refl
ignored way p (records.MacSdu lcid len) h a r = refl
ignored way p (records.MacPad len) h a r = refl
ignored way p (records.MacControl control) h a r = refl
ignored way p (records.RlcTm len) h a r = refl
ignored way p (records.RlcUm sn fi lens) h a r = refl
ignored way p (records.RlcAm sn poll fi lens) h a r = refl
ignored way p (records.RlcSeg sn poll fi so lens last) h a r = refl
ignored way p (records.RlcStatus ack nacks) h a r = refl
ignored way p (records.PdcpData sn len) h a r = refl
ignored way p (records.PdcpSrb sn len tag) h a r = refl
ignored way p (records.PdcpReport fms bitmap) h a r = refl
ignored way p (records.Shown number direction len) h a r = refl
ignored way p (records.BadMac fault) h a r = refl
ignored way p (records.BadRlc fault) h a r = refl
ignored way p (records.BadPdcp fault) h a r = refl

none_first : (b : Bool) (one : Record) (xs : List Record) → cond b (one ∷ xs) xs ≡ [] → b ≡ false
none_first true one xs e = cc
none_first false one xs e = refl

none_after : (b : Bool) (one : Record) (xs : List Record) → cond b (one ∷ xs) xs ≡ [] → xs ≡ []
none_after true one xs e = cc
none_after false one xs e = e

passed : (way : Direction) (p : ℕ) (one : Record) (told : List Record) (a : Bool) → is_of_air one ≡ a
    → is_of_run one ≡ false → ((h : Heard) → heard way p told h ≡ heard way p (filter is_of_air told) h)
    → (h : Heard) → heard way p (one ∷ told) h
    ≡ heard way p (cond a (one ∷ filter is_of_air told) (filter is_of_air told)) h
passed way p one told true e r rest h = rest (hears way p one h)
passed way p one told false e r rest h = ap (λ (x : Heard). heard way p told x) (ignored way p one h e r) ∙ rest h

-- only what is told of the air counts
pub of_air_alone : (way : Direction) (p : ℕ) (told : List Record) → filter is_of_run told ≡ [] → (h : Heard)
    → heard way p told h ≡ heard way p (filter is_of_air told) h
of_air_alone way p [] none h = refl
of_air_alone way p (one ∷ told) none h =
    passed way p one told (is_of_air one) refl (none_first (is_of_run one) one (filter is_of_run told) none)
    (λ x. of_air_alone way p told (none_after (is_of_run one) one (filter is_of_run told) none) x) h

pub heard_then : (way : Direction) (p : ℕ) (a b : List Record) (h : Heard)
    → heard way p (a ++ b) h ≡ heard way p b (heard way p a h)
heard_then way p [] b h = refl
heard_then way p (one ∷ a) b h = heard_then way p a b (hears way p one h)

-- ---- what flies

-- a process in a TTI, its own or another: before and behind what is told of its visit
abbrev begun : Bool → Bool → Bool → List Flight → Heard
begun true lost missed past = record { lost = lost; here = true; flights = idle missed ∷ past }
begun false lost missed past = record { lost = lost; here = false; flights = past }

abbrev done : Bool → Bool → Flight → List Flight → Heard
done true lost f past = record { lost = lost; here = true; flights = f ∷ past }
done false lost f past = record { lost = lost; here = false; flights = past }

-- a visit as it is told
abbrev pub flown : Bool → List Record → Flight
flown missed told = record { deed = deed_of told; came = came_of told; missed = missed }

sleeps_first : (way : Direction) (p : ℕ) (b asleep lost : Bool) (past : List Flight)
    → heard way p (sleeping asleep) (begun b lost lost past) ≡ begun b lost (asleep || lost) past
sleeps_first way p true true lost past = refl
sleeps_first way p false true lost past = refl
sleeps_first way p true false lost past = refl
sleeps_first way p false false lost past = refl

-- a block and what comes of it
abbrev flight : Direction → ℕ → Bool → ℕ → List ℕ → Arrived → Outcome → List Record
flight d process fresh version octets what o = records.Block d process fresh version octets ∷ came d what o ∷ []

down_own : (b fresh lost missed : Bool) (p process version : ℕ) (octets : List ℕ) (what : Arrived) (o : Outcome)
    (past : List Flight)
    → heard Down p (flight Down process fresh version octets what o) (begun b lost missed past)
    ≡ done b lost (flown missed (flight Down process fresh version octets what o)) past
down_own true true lost missed p process version octets what o past = refl
down_own true false lost missed p process version octets what o past = refl
down_own false true lost missed p process version octets what o past = refl
down_own false false lost missed p process version octets what o past = refl

up_own : (b fresh lost missed : Bool) (p process version : ℕ) (octets : List ℕ) (what : Arrived) (o : Outcome)
    (past : List Flight)
    → heard Up p (flight Up process fresh version octets what o) (begun b lost missed past)
    ≡ done b lost (flown missed (flight Up process fresh version octets what o)) past
up_own true true lost missed p process version octets what o past = refl
up_own true false lost missed p process version octets what o past = refl
up_own false true lost missed p process version octets what o past = refl
up_own false false lost missed p process version octets what o past = refl

down_other : (b lost missed : Bool) (p process : ℕ) (fresh : Bool) (version : ℕ) (octets : List ℕ) (what : Arrived)
    (o : Outcome) (past : List Flight)
    → heard Up p (flight Down process fresh version octets what o) (begun b lost missed past) ≡ begun b lost missed past
down_other true lost missed p process fresh version octets what o past = refl
down_other false lost missed p process fresh version octets what o past = refl

up_other : (b lost : Bool) (f : Flight) (p process : ℕ) (fresh : Bool) (version : ℕ) (octets : List ℕ)
    (what : Arrived) (o : Outcome) (past : List Flight)
    → heard Down p (flight Up process fresh version octets what o) (done b lost f past) ≡ done b lost f past
up_other true lost f p process fresh version octets what o past = refl
up_other false lost f p process fresh version octets what o past = refl

silent : (b lost missed : Bool) (past : List Flight) → begun b lost missed past ≡ done b lost (flown missed []) past
silent true lost missed past = refl
silent false lost missed past = refl

-- by whether there is a grant
pub none_or_some : (grant : ℕ) → (grant ≡ 0) ⊎ (1 ≤ grant)
none_or_some zero = inl refl
none_or_some (suc n) = inr (omega arith)

-- the downlink's block, to both directions
down_is : (t grant : ℕ) (o : Outcome) (told : List Record) (p : ℕ) (b lost missed : Bool) (past : List Flight)
    → IsDown t grant o told
    → heard Down p told (begun b lost missed past) ≡ done b lost (flown missed told) past
down_is t grant o told p b lost missed past d = elim (none_or_some grant) [
  | inl e ↦ rw (d.none e) (silent b lost missed past)
  | inr h ↦ let f = d.one h in rw f.flown_is (down_own b f.fresh lost missed p (t % 8) f.version f.octets f.what o past)
]

down_is_not_up : (t grant : ℕ) (o : Outcome) (told : List Record) (p : ℕ) (b lost missed : Bool) (past : List Flight)
    → IsDown t grant o told
    → heard Up p told (begun b lost missed past) ≡ begun b lost missed past
down_is_not_up t grant o told p b lost missed past d = elim (none_or_some grant) [
  | inl e ↦ rw (d.none e) refl
  | inr h ↦ let f = d.one h in
      rw f.flown_is (down_other b lost missed p (t % 8) f.fresh f.version f.octets f.what o past)
]

unanswered : (p : ℕ) (b lost missed : Bool) (past : List Flight)
    → heard Up p (records.Air Up arriveds.Nothing None ∷ []) (begun b lost missed past)
    ≡ done b lost (flown missed (records.Air Up arriveds.Nothing None ∷ [])) past
unanswered p true lost missed past = refl
unanswered p false lost missed past = refl

unanswered_down : (p : ℕ) (b lost : Bool) (f : Flight) (past : List Flight)
    → heard Down p (records.Air Up arriveds.Nothing None ∷ []) (done b lost f past) ≡ done b lost f past
unanswered_down p true lost f past = refl
unanswered_down p false lost f past = refl

some_up : (t : ℕ) (o : Outcome) (told : List Record) (p : ℕ) (b lost missed : Bool) (past : List Flight)
    → FliesUp t o told ⊎ IsUnanswered o told
    → heard Up p told (begun b lost missed past) ≡ done b lost (flown missed told) past
some_up t o told p b lost missed past (inl f) =
    rw f.flown_is (up_own b f.fresh lost missed p (t % 8) f.version f.octets _ o past)
some_up t o told p b lost missed past (inr u) = rw u.flown_is (unanswered p b lost missed past)

up_is : (t grant : ℕ) (o : Outcome) (told : List Record) (p : ℕ) (b lost missed : Bool) (past : List Flight)
    → IsUp t grant o told
    → heard Up p told (begun b lost missed past) ≡ done b lost (flown missed told) past
up_is t grant o told p b lost missed past u = elim (none_or_some grant) [
  | inl e ↦ rw (u.none e) (silent b lost missed past)
  | inr h ↦ some_up t o told p b lost missed past (u.one h)
]

some_not_down : (t : ℕ) (o : Outcome) (told : List Record) (p : ℕ) (b lost : Bool) (f : Flight) (past : List Flight)
    → FliesUp t o told ⊎ IsUnanswered o told
    → heard Down p told (done b lost f past) ≡ done b lost f past
some_not_down t o told p b lost f past (inl u) =
    rw u.flown_is (up_other b lost f p (t % 8) u.fresh u.version u.octets _ o past)
some_not_down t o told p b lost f past (inr u) = rw u.flown_is (unanswered_down p b lost f past)

up_is_not_down : (t grant : ℕ) (o : Outcome) (told : List Record) (p : ℕ) (b lost : Bool) (f : Flight)
    (past : List Flight) → IsUp t grant o told
    → heard Down p told (done b lost f past) ≡ done b lost f past
up_is_not_down t grant o told p b lost f past u = elim (none_or_some grant) [
  | inl e ↦ rw (u.none e) refl
  | inr h ↦ some_not_down t o told p b lost f past (u.one h)
]

-- ---- a TTI

abbrev pub with_flight : Bool → Flight → List Flight → List Flight
with_flight true f past = f ∷ past
with_flight false f past = past

-- a process goes on by a visit, where it is its own; the line stays the same
pub record Visits (own : Bool) (f : Flight) (before after : Heard) : Type 0 where
  pub flights_are : after.flights ≡ with_flight own f before.flights
  pub lost_is : after.lost ≡ before.lost

begins : (way : Direction) (p t : ℕ) (h : Heard) (b : Bool) → (p == t % 8) ≡ b
    → hears way p (records.Tti t) h ≡ begun b h.lost h.lost h.flights
begins way p t h true e = rw e refl
begins way p t h false e = rw e refl

visited : (b : Bool) (f : Flight) (h q : Heard) → q ≡ done b h.lost f h.flights → Visits b f h q
visited true f h q e = record { flights_are = ap (λ (x : Heard). x.flights) e; lost_is = ap (λ (x : Heard). x.lost) e }
visited false f h q e = record { flights_are = ap (λ (x : Heard). x.flights) e; lost_is = ap (λ (x : Heard). x.lost) e }

parts : (way : Direction) (p t : ℕ) (asleep : Bool) (downward upward more : List Record) (h : Heard)
    → filter is_of_run more ≡ [] → filter is_of_air more ≡ sleeping asleep ++ (downward ++ upward)
    → heard way p (records.Tti t ∷ more) h
    ≡ heard way p upward (heard way p downward (begun (p == t % 8) h.lost (asleep || h.lost) h.flights))
parts way p t asleep downward upward more h none air =
    let b = p == t % 8 in
    of_air_alone way p more none (hears way p (records.Tti t) h)
    ∙ ap (λ (x : List Record). heard way p x (hears way p (records.Tti t) h)) air
    ∙ heard_then way p (sleeping asleep) (downward ++ upward) (hears way p (records.Tti t) h)
    ∙ ap (λ (x : Heard). heard way p (downward ++ upward) (heard way p (sleeping asleep) x)) (begins way p t h b refl)
    ∙ ap (λ (x : Heard). heard way p (downward ++ upward) x) (sleeps_first way p b asleep h.lost h.flights)
    ∙ heard_then way p downward upward (begun b h.lost (asleep || h.lost) h.flights)

pub tti_down : (p t up_grant : ℕ) (up : Outcome) (down_grant : ℕ) (down : Outcome) (asleep : Bool)
    (downward upward more : List Record) (h : Heard)
    → filter is_of_run more ≡ [] → filter is_of_air more ≡ sleeping asleep ++ (downward ++ upward)
    → IsDown t down_grant down downward → IsUp t up_grant up upward
    → Visits (p == t % 8) (flown (asleep || h.lost) downward) h (heard Down p (records.Tti t ∷ more) h)
tti_down p t up_grant up down_grant down asleep downward upward more h none air d u =
    let b = p == t % 8 in
    let f = flown (asleep || h.lost) downward in
    visited b f h (heard Down p (records.Tti t ∷ more) h)
    (parts Down p t asleep downward upward more h none air
    ∙ ap (λ (x : Heard). heard Down p upward x)
    (down_is t down_grant down downward p b h.lost (asleep || h.lost) h.flights d)
    ∙ up_is_not_down t up_grant up upward p b h.lost f h.flights u)

pub tti_up : (p t up_grant : ℕ) (up : Outcome) (down_grant : ℕ) (down : Outcome) (asleep : Bool)
    (downward upward more : List Record) (h : Heard)
    → filter is_of_run more ≡ [] → filter is_of_air more ≡ sleeping asleep ++ (downward ++ upward)
    → IsDown t down_grant down downward → IsUp t up_grant up upward
    → Visits (p == t % 8) (flown (asleep || h.lost) upward) h (heard Up p (records.Tti t ∷ more) h)
tti_up p t up_grant up down_grant down asleep downward upward more h none air d u =
    let b = p == t % 8 in
    let missed = asleep || h.lost in
    visited b (flown missed upward) h (heard Up p (records.Tti t ∷ more) h)
    (parts Up p t asleep downward upward more h none air
    ∙ ap (λ (x : Heard). heard Up p upward x) (down_is_not_up t down_grant down downward p b h.lost missed h.flights d)
    ∙ up_is t up_grant up upward p b h.lost missed h.flights u)

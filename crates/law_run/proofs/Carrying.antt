-- The HARQ processes of both ends, and what the records of their visits tell of them.
use Rattle.std.proofs.Common.{◌≡◌, ◌≤◌, ℕ, ◌%◌, ◌==◌, ◌||◌, Bool, true, false, if◌then◌else◌, List, [], ◌∷◌, ◌++◌, refl}
use Rattle.std.proofs.Common.{ap, ◌∙◌}
use Rattle.std.specs.List.{filter}
use Rattle.air_link.specs.Downlink.{down_order}
use Rattle.air_link.specs.Link.{Link}
use Rattle.air_record.specs.declared.line.Outcome.{Outcome}
use Rattle.air_record.specs.declared.record.Record.{Record}
use Rattle.air_record.specs.declared.record.Record.TheVariants as records
use Rattle.harq.specs.declared.sender.Order.TheVariants.{Silent, Free}
use Rattle.harq.specs.SendHistory.{is_down}
use Rattle.promises.specs.Records.{is_of_run, is_of_air}
use Rattle.law_run.specs.AnyCalls.Deeds.{Entities, entities}
use Rattle.law_run.specs.AnyCalls.Told.{AddsTti}
use Rattle.mac_pdu.specs.declared.item.Direction.{Direction}
use Rattle.mac_pdu.specs.declared.item.Direction.TheVariants.{Down, Up}
use Rattle.promises.specs.Heard.{Heard, heard, is_miss}
use Rattle.law_run.proofs.Awarding.{StandsUp, up_as, up_turn}
use Rattle.law_run.proofs.Sending.{SameFlights}
use Rattle.law_run.proofs.Answering.{StandsDown, down_as, down_turn}
use Rattle.law_run.proofs.Hearing.{flown, Visits, of_air_alone, heard_then, tti_down, tti_up}

-- behind records the processes stand as they did, where the line's outcome on the uplink is a miss or isn't
pub record KeepsBoth (lost : Bool) (e f : Entities) (told : List Record) : Type 0 where
  pub lost_is : (p : ℕ) (h : Heard) → (heard Up p told h).lost ≡ h.lost
  pub down : (maximum : ℕ) (h : ℕ → Heard) → StandsDown maximum e.nb.sender e.ue.receiver h
      → StandsDown maximum f.nb.sender f.ue.receiver (λ p. heard Down p told (h p))
  pub up : (maximum : ℕ) (h : ℕ → Heard) → 1 ≤ maximum → ((p : ℕ) → (h p).lost ≡ lost)
      → StandsUp maximum e.ue.sender e.nb.receiver h
      → StandsUp maximum f.ue.sender f.nb.receiver (λ p. heard Up p told (h p))

pub both_then : (lost : Bool) (e f g : Entities) (x y : List Record) → KeepsBoth lost e f x → KeepsBoth lost f g y
    → KeepsBoth lost e g (x ++ y)
both_then lost e f g x y a b =
    let all : (way : Direction) (h : ℕ → Heard)
    → SameFlights (λ p. heard way p y (heard way p x (h p))) (λ p. heard way p (x ++ y) (h p)) =
    λ way h p. ap (λ (z : Heard). z.flights) (heard_then way p x y (h p)) in
    record {
      lost_is = λ p h. ap (λ (z : Heard). z.lost) (heard_then Up p x y h) ∙ b.lost_is p (heard Up p x h)
          ∙ a.lost_is p h;
      down = λ maximum h s.
          down_as maximum g.nb.sender g.ue.receiver (λ p. heard Down p y (heard Down p x (h p)))
          (λ p. heard Down p (x ++ y) (h p)) (all Down h)
          (b.down maximum (λ p. heard Down p x (h p)) (a.down maximum h s));
      up = λ maximum h some is s.
          up_as maximum g.ue.sender g.nb.receiver (λ p. heard Up p y (heard Up p x (h p)))
          (λ p. heard Up p (x ++ y) (h p)) (all Up h)
          (b.up maximum (λ p. heard Up p x (h p)) some (λ p. a.lost_is p (h p) ∙ is p) (a.up maximum h some is s));
    }

-- records that tell nothing of the processes
pub both_ignore : (lost : Bool) (e : Entities) (told : List Record)
    → ((way : Direction) (p : ℕ) (h : Heard) → heard way p told h ≡ h) → KeepsBoth lost e e told
both_ignore lost e told still = record {
  lost_is = λ p h. ap (λ (z : Heard). z.lost) (still Up p h);
  down = λ maximum h s. down_as maximum e.nb.sender e.ue.receiver h (λ p. heard Down p told (h p))
      (λ p. ap (λ (z : Heard). z.flights) (still Down p (h p))) s;
  up = λ maximum h some is s. up_as maximum e.ue.sender e.nb.receiver h (λ p. heard Up p told (h p))
      (λ p. ap (λ (z : Heard). z.flights) (still Up p (h p))) s;
}

-- nor of the air, nor of a run
pub both_still : (lost : Bool) (e : Entities) (told : List Record) → filter is_of_run told ≡ []
    → filter is_of_air told ≡ [] → KeepsBoth lost e e told
both_still lost e told none air =
    both_ignore lost e told (λ way p h. of_air_alone way p told none h
    ∙ ap (λ (x : List Record). heard way p x h) air)

free_or_silent : (b : Bool) → is_down (if b then Silent else Free) ≡ true
free_or_silent true = refl
free_or_silent false = refl

pub both_turn : (asleep : Bool) (up_grant : ℕ) (up : Outcome) (down_grant : ℕ) (down : Outcome) (l m : Link)
    (a : AddsTti asleep up_grant up down_grant down l m)
    → KeepsBoth (is_miss up.fate) (entities l) (entities m) (records.Tti l.ttis ∷ a.more)
both_turn asleep up_grant up down_grant down l m a =
    let told = records.Tti l.ttis ∷ a.more in
    let visits : (p : ℕ) (h : Heard)
    → Visits (p == l.ttis % 8) (flown (asleep || h.lost) a.upward) h (heard Up p told h) =
    λ p h. tti_up p l.ttis up_grant _ down_grant _ asleep a.downward a.upward a.more h a.told.none_of_run
    a.told.flown_is a.down_is a.up_is in
    record {
      lost_is = λ p h. (visits p h).lost_is;
      down = λ maximum h s.
          down_turn l.ttis (down_order down_grant) l.nb.sender m.nb.sender l.ue.receiver m.ue.receiver a.downward
          (free_or_silent (down_grant == 0)) a.down_turn a.down_answer
          maximum h (λ p. heard Down p told (h p)) (λ p. asleep || (h p).lost)
          (λ p. tti_down p l.ttis up_grant _ down_grant _ asleep a.downward a.upward a.more (h p) a.told.none_of_run
          a.told.flown_is a.down_is a.up_is) s;
      up = λ maximum h some is s.
          up_turn l.ttis up_grant asleep up l.ue.sender m.ue.sender l.nb.receiver m.nb.receiver a.upward a.up_turn
          a.up_heard a.up_is
          maximum h (λ p. heard Up p told (h p)) some is (λ p. visits p (h p)) s;
    }

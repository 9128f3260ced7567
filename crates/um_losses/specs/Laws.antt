-- Why tags may stand in the place of octets (TS 36.322 5.1.2.2): a receiver looks at no octet.
use Rattle.std.specs.Prelude.{◌≡◌, ℕ, ◌<◌, ◌^◌, List, [], ◌++◌, length, map, Option, Some, None}
use Rattle.rlc_pdu.specs.Pdus.{UmdPdu}
use Rattle.rlc_um.specs.Joined.{Parts, Joined}
use Rattle.rlc_um.specs.Window.{Window}
use Rattle.rlc_um.specs.Receiver.{State, arrival, expired, counted, handed, all_joined}
use Rattle.um_losses.specs.Tags.{octets_of, last_tag}

-- the tag that ends an SDU is read from it
abbrev pub TagIsRead : Type 0
TagIsRead = (before : List ℕ) (tag : ℕ) → tag < 2 ^ 64 → last_tag (before ++ octets_of tag) ≡ tag

-- ---- what is left of a receiver without octets and without its clock

abbrev pub blanks : List (List ℕ) → List (List ℕ)
blanks elements = map (λ (octets : List ℕ). []) elements

abbrev pub blank_slot : Option Parts → Option Parts
blank_slot None = None
blank_slot (Some p) = Some (record p { elements = blanks p.elements })

abbrev pub blank_part : Option (List ℕ) → Option (List ℕ)
blank_part None = None
blank_part (Some octets) = Some []

abbrev pub blank_window : Window → Window
blank_window w = record w { slots = map blank_slot w.slots }

abbrev pub blank_joined : Joined → Joined
blank_joined j = record { ready = blanks j.ready; part = blank_part j.part }

pub record Outline : Type 0 where
  pub window : Window
  pub joined : Joined
  pub mark : Option ℕ

abbrev pub outline : State → Outline
outline s = record { window = blank_window s.window; joined = blank_joined s.joined; mark = s.mark }

-- PDUs with the same fields and as many elements
pub record AreAlike (p q : UmdPdu) : Type 0 where
  pub sn : p.sn ≡ q.sn
  pub fi : p.fi ≡ q.fi
  pub elements : length p.elements ≡ length q.elements

-- receivers that differ in octets and clocks alone stay so, whether PDUs that are alike arrive,
-- their timers expire, TTIs begin at one of them, or SDUs go up; and they hand up as many SDUs,
-- also as they end
pub record StayAlike (s t : State) : Type 0 where
  pub arrives : (p q : UmdPdu) → AreAlike p q → outline (arrival p s) ≡ outline (arrival q t)
  pub expires : outline (expired s) ≡ outline (expired t)
  pub ticks : outline (counted s) ≡ outline t
  pub hands : outline (handed s) ≡ outline (handed t)
  pub ready : length s.joined.ready ≡ length t.joined.ready
  pub ends : length (all_joined s) ≡ length (all_joined t)

abbrev pub HearAlike : Type 0
HearAlike = (s t : State) → outline s ≡ outline t → StayAlike s t

-- What is held ends with an SDU.
use Rattle.std.proofs.Common.{◌≡◌, ◌≢◌, ◌<◌, ◌≤◌, ℕ, ◌+◌, ◌-◌, Bool, true, false, nat_lt, if◌then◌else◌, List, []}
use Rattle.std.proofs.Common.{length, drop, replicate, Option, Some, None, refl, ap, ◌∙◌, arith, length-append}
use Rattle.std.proofs.Common.{length-drop}
use Rattle.std.proofs.lemmas.Bool.Decides.{nat_tests}
use Rattle.std.proofs.lemmas.List.{length-set, length-replicate, get_or-set_same, get_or-set_other, get_or-drop}
use Rattle.std.proofs.Math.ListN.{get_or-append}
use Rattle.pdcp_rx.specs.declared.got.Cause.{Cause}
use Rattle.pdcp_rx.specs.declared.got.Got.{Got}
use Rattle.pdcp_rx.specs.declared.security.Opened.{Opened}
use Rattle.pdcp_rx.specs.declared.security.Opened.TheVariants.{Sdu, Differs}
use Rattle.pdcp_pdu.specs.Kinds.{is_am}
use Rattle.pdcp_sec.specs.Protection.{Protection}
use Rattle.pdcp_rx.specs.Heard.{Heard, Bad, Told, Data, heard}
use Rattle.pdcp_pdu.specs.declared.PdcpKind.{PdcpKind}
use Rattle.eps_sec.specs.declared.Keys.{Keys}
use Rattle.pdcp_rx.specs.Held.{Ends, widened, stored, rising}
use Rattle.pdcp_rx.specs.State.{State, above, passed_over, opened_at, waits, raised, left_opened, left_data, left_heard}
use Rattle.pdcp_rx.specs.State.{arrived, fresh, restarted}

spare : (n : ℕ) (x : Option (List ℕ)) → length (replicate n x) ≡ n
spare n x = length-replicate n x

long : (held : List (Option (List ℕ))) (at : ℕ) (sdu : List ℕ)
    → length (stored held at sdu) ≡ length held + (at + 1 - length held)
long held at sdu = length-set (widened held (at + 1)) at (Some sdu)
    ∙ length-append held (replicate (at + 1 - length held) None)
    ∙ ap (λ (n : ℕ). length held + n) (spare (at + 1 - length held) None)

room : (held : List (Option (List ℕ))) (at : ℕ) → at < length (widened held (at + 1))
room held at =
    omega (arith, length-append held (replicate (at + 1 - length held) None), spare (at + 1 - length held) None)

stored_step : (held : List (Option (List ℕ))) (at : ℕ) (sdu : List ℕ) (b : Bool) → nat_lt (at + 1) (length held) ≡ b
    → Ends held → Ends (stored held at sdu)
stored_step held at sdu true e ends some =
    let lt : at + 1 < length held = grind (arith, nat_tests, e) in
    let last : length (stored held at sdu) - 1 ≡ length held - 1 = omega (arith, long held at sdu) in
    let other : length held - 1 ≢ at = λ same. absurd (omega (arith, same)) in
    rw (
      last,
      get_or-set_other (widened held (at + 1)) at (length held - 1) (Some sdu) None other,
      get_or-append held (replicate (at + 1 - length held) None) None (length held - 1) (omega arith),
    )
    (ends (omega arith))
stored_step held at sdu false e ends some =
    let le : length held ≤ at + 1 = grind (arith, nat_tests, e) in
    let last : length (stored held at sdu) - 1 ≡ at = omega (arith, long held at sdu) in
    rw (last, get_or-set_same (widened held (at + 1)) at (Some sdu) None (room held at)) refl

pub stored_ends : (held : List (Option (List ℕ))) (at : ℕ) (sdu : List ℕ) → Ends held → Ends (stored held at sdu)
stored_ends held at sdu = stored_step held at sdu (nat_lt (at + 1) (length held)) refl

pub dropped_ends : (held : List (Option (List ℕ))) (n : ℕ) → Ends held → Ends (drop n held)
dropped_ends held n ends some =
    let size : length (drop n held) ≡ length held - n = length-drop n held in
    let last : n + (length (drop n held) - 1) ≡ length held - 1 = omega (arith, size, some) in
    rw (get_or-drop n held (length (drop n held) - 1) None, last) (ends (omega (arith, size, some)))

placed_step : (s : State) (b : Bool) (at : ℕ) (sdu : List ℕ) → Ends s.held
    → Ends (if b then record s { held = stored s.held at sdu } else raised s (stored s.held at sdu) (at + 1)).held
placed_step s true at sdu ends = stored_ends s.held at sdu ends
placed_step s false at sdu ends =
    dropped_ends (stored s.held at sdu) (rising (stored s.held at sdu) (at + 1)) (stored_ends s.held at sdu ends)

opened_step : (o : Opened) (s : State) (cause : Cause) (at : ℕ) → Ends s.held → Ends (left_opened s cause at o).held
opened_step (Sdu sdu) s cause at ends = placed_step s (waits s.kind cause at) at sdu ends
opened_step (Differs found wanted) s cause at ends = ends

data_step : (why : Option Got) (s : State) (cause : Cause) (at : ℕ) (o : Opened) → Ends s.held
    → Ends (left_data why s cause at o).held
data_step (Some why) s cause at o ends = ends
data_step None s cause at o ends = opened_step o s cause at ends

heard_step : (h : Heard) (s : State) (cause : Cause) → Ends s.held → Ends (left_heard s cause h).held
heard_step (Bad refusal) s cause ends = ends
heard_step (Told fms bits) s cause ends = ends
heard_step (Data sn body) s cause ends =
    data_step (passed_over s (above s sn)) s cause (above s sn) (opened_at s (above s sn) body) ends

pub arrived_ends : (s : State) (pdu : List ℕ) (cause : Cause) → Ends s.held → Ends (arrived s pdu cause).held
unfolding arrived
arrived_ends s pdu cause ends = heard_step (heard s.kind pdu) s cause ends

pub fresh_ends : (kind : PdcpKind) (p : Protection) (first : ℕ) → Ends (fresh kind p first).held
unfolding fresh
fresh_ends kind p first some = absurd (omega (arith, some))

kept_step : (b : Bool) (held : List (Option (List ℕ))) → Ends held → Ends (if b then held else [])
kept_step true held ends = ends
kept_step false held ends = λ some. absurd (omega (arith, some))

pub restarted_ends : (s : State) (keys : Keys) → Ends s.held → Ends (restarted s keys).held
unfolding restarted
restarted_ends s keys ends = kept_step (is_am s.kind) s.held ends

-- A long gap isn't forgotten.
use Rattle.std.proofs.Common.{◌≡◌, ℕ, ◌+◌, ◌==◌, ◌||◌, nat_lt, nat_le, Bool, true, false, if◌then◌else◌, List, [], ◌∷◌}
use Rattle.std.proofs.Common.{Option, Some, None, slice_index_or, refl, ap, sym, ◌∙◌}
use Rattle.rlc_um.specs.Receiver.{arrival, expired, all_joined}
use Rattle.um_losses.specs.declared.flow.Happening.{Happening}
use Rattle.um_losses.specs.declared.flow.Happening.TheVariants.{BlockRenewed, PduWritten, BlockArrived, PduForged}
use Rattle.um_losses.specs.declared.flow.Happening.TheVariants.{TimerExpired, LifeRestarted}
use Rattle.um_losses.specs.declared.gaps.Gaps.{Gaps}
use Rattle.um_losses.specs.declared.pdu.Pdu.{Pdu}
use Rattle.um_losses.specs.declared.sending.InFlight.{InFlight}
use Rattle.um_losses.specs.Flow.{Flow, all_gone, heard, arrived_if, written_in, after}
use Rattle.um_losses.specs.Gaps.{numbered, counted, all_counted}
use Rattle.um_losses.specs.Pdus.{is_pdu}
use Rattle.um_losses.specs.Tags.{last_tag, tagged}

first_false : (x y : Bool) → (x || y) ≡ false → x ≡ false
first_false true y e = e
first_false false y e = refl

counted_long : (b : Bool) (tag : ℕ) (g : Gaps) → (tag == 0) ≡ b → (counted tag g).long ≡ false → g.long ≡ false
counted_long true tag g q e =
    sym
    (ap
    (λ (b : Bool). (if b then g else record g { next = tag; long = g.long || nat_lt (g.next + g.counts) tag }).long)
    q) ∙ e
counted_long false tag g q e =
    first_false g.long (nat_lt (g.next + g.counts) tag)
    (sym
    (ap
    (λ (b : Bool). (if b then g else record g { next = tag; long = g.long || nat_lt (g.next + g.counts) tag }).long)
    q) ∙ e)

all_long : (sdus : List (List ℕ)) (g : Gaps) → (all_counted sdus g).long ≡ false → g.long ≡ false
all_long [] g e = e
all_long (sdu ∷ sdus) g e =
    counted_long (last_tag sdu == 0) (last_tag sdu) g refl (all_long sdus (counted (last_tag sdu) g) e)

heard_by : (b : Bool) (first : Option ℕ) (p : Pdu) (f : Flow) → is_pdu f.bits p ≡ b
    → (heard first p f).gaps.long ≡ false → f.gaps.long ≡ false
heard_by true first p f q e =
    let g : Flow = record f { receiver = arrival (tagged first p) f.receiver } in
    all_long g.receiver.joined.ready f.gaps (sym (ap (λ (b : Bool). (if b then all_gone g else f).gaps.long) q) ∙ e)
heard_by false first p f q e =
    sym
    (ap
    (λ (b : Bool). (if b then all_gone (record f { receiver = arrival (tagged first p) f.receiver })
    else f).gaps.long) q) ∙ e

arrived_by : (s : Option InFlight) (f : Flow) → (arrived_if s f).gaps.long ≡ false → f.gaps.long ≡ false
arrived_by None f e = e
arrived_by (Some s) f e =
    let g : Flow = record f { gaps = numbered s.number f.gaps } in
    first_false f.gaps.long (nat_le (f.gaps.top + f.gaps.width) s.number)
    (heard_by (is_pdu f.bits s.pdu) (Some s.first) s.pdu g refl e)

written_by : (b : Bool) (process : ℕ) (p : Pdu) (f : Flow) → is_pdu f.bits p ≡ b
    → (written_in process p f).gaps.long ≡ f.gaps.long
written_by true process p f q = rw q refl
written_by false process p f q = rw q refl

pub unlong : (what : Happening) (f : Flow) → (after what f).gaps.long ≡ false → f.gaps.long ≡ false
unlong (BlockRenewed process) f e = e
unlong (PduWritten process p) f e = sym (written_by (is_pdu f.bits p) process p f refl) ∙ e
unlong (BlockArrived process) f e = arrived_by (slice_index_or f.sending.under_way process None) f e
unlong (PduForged p) f e = heard_by (is_pdu f.bits p) None p f refl e
unlong TimerExpired f e = all_long (expired f.receiver).joined.ready f.gaps e
unlong LifeRestarted f e = all_long (all_joined f.receiver) f.gaps e

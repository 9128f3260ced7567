-- Through every line what goes up on LCID 0 is what the blocks carry that arrive.
use Rattle.std.proofs.Common.{◌≡◌, ◌≤◌, ℕ, zero, suc, ◌==◌, Bool, true, false, ◌||◌, List, [], ◌∷◌, ◌++◌, insert}
use Rattle.std.proofs.Common.{append-nil, arith, refl, ap, sym, subst, ◌∙◌}
use Rattle.std.specs.Prelude.{Option}
use Rattle.std.proofs.lemmas.Bool.Decides.{nat_tests}
use Rattle.air_link.specs.Draining.{drain_tti, carried, receivers_expire, is_drained}
use Rattle.air_link.specs.Link.{Link, end_of, fresh as fresh_link}
use Rattle.air_record.specs.declared.line.Line.{Line}
use Rattle.air_record.specs.declared.line.Line.TheVariants as lines
use Rattle.air_record.specs.declared.record.Record.{Record}
use Rattle.air_run.specs.Draining.{shown, Drained, at_once, behind, ttis, senders_unless, round, left_by, done_by}
use Rattle.air_run.specs.Draining.{round_told, rounds, budget, drained}
use Rattle.air_record.specs.declared.record.Record.TheVariants as records
use Rattle.air_run.specs.Playing.{keys_or_none, acted, played}
use Rattle.air_record.specs.Cells.{next_keys}
use Rattle.air_run.specs.Run.{fresh, behind_line}
use Rattle.air_text.specs.Groups.{Group}
use Rattle.air_text.specs.Ranges.{IsInRange}
use Rattle.bearer.specs.Bearer.{Of, Life, begun}
use Rattle.eps_sec.specs.declared.Keys.{Keys}
use Rattle.l2_node.specs.End.{End, fresh as fresh_end}
use Rattle.l2_node.specs.Finding.{has, place}
use Rattle.l2_types.specs.declared.side.Side.{Side}
use Rattle.l2_types.specs.declared.side.Side.TheVariants.{Nb, Ue}
use Rattle.law_run.specs.AnyCalls.Calls as calls
use Rattle.law_run.specs.AnyCalls.Ends.{GoesOn}
use Rattle.law_run.specs.AnyCalls.Zero.{HasCome, HaveCome, has_zero, Brings, none_forged}
use Rattle.promises.specs.Records.{ups_in}
use Rattle.promises.specs.Zero.{arrived, brought, adds_zero, is_added, forged, IsBrought, BringInOrder}
use Rattle.law_run.proofs.AnyCalls.Advancing.{call_goes_on, drain_goes}
use Rattle.law_run.proofs.AnyCalls.Arriving.{Carries, carries_then, calls_bring, submissions_bring, ttis_bring}
use Rattle.law_run.proofs.AnyCalls.Arriving.{drains_bring}
use Rattle.law_run.proofs.AnyCalls.Bringing.{zero_stays, come_on}
use Rattle.law_run.proofs.AnyCalls.Stilling.{none_brought, ups_both}
use Rattle.law_node.specs.Bearers.{AddNone}
use Rattle.law_node.proofs.Steps.{insert_stands}
use Rattle.test_loop.specs.declared.Mode.TheVariants.{Off, A, B}
use Rattle.law_run.specs.Order.{state_behind, KeepsOrder}
use Rattle.law_run.proofs.Counts.{come, goes}
use Rattle.law_run.proofs.Past.{behind as all_behind, link_behind}
use Rattle.law_run.proofs.Reaching.{lives_by, round_goes}

-- ---- both ends have come by calls, with or without a bearer of LCID 0

record Ready (known : Side → Bool) (l : Link) : Type 0 where
  ends : HaveCome l
  known_is : (side : Side) → has_zero side l ≡ known side

still_known : (known : Side → Bool) (blocks : List Record) (l m : Link) → GoesOn blocks l m → Ready known l
    → (side : Side) → has_zero side m ≡ known side
still_known known blocks l m g r Nb = zero_stays [] Nb g.more l.nb m.nb g.nb tt r.ends.nb ∙ r.known_is Nb
still_known known blocks l m g r Ue = zero_stays [] Ue g.more l.ue m.ue g.ue tt r.ends.ue ∙ r.known_is Ue

ready_on : (known : Side → Bool) (blocks : List Record) (l m : Link) → GoesOn blocks l m → Ready known l → Ready known m
ready_on known blocks l m g r = record {
  ends = record {
    nb = come_on Nb g.more l.nb m.nb g.nb.by r.ends.nb;
    ue = come_on Ue g.more l.ue m.ue g.ue.by r.ends.ue;
  };
  known_is = still_known known blocks l m g r;
}

-- the records are written
shown_known : (l : Link) (side : Side) → has_zero side (shown l) ≡ has_zero side l
shown_known l Nb = refl
shown_known l Ue = refl

shown_ready : (known : Side → Bool) (l : Link) → Ready known l → Ready known (shown l)
shown_ready known l r = record {
  ends = record { nb = r.ends.nb; ue = r.ends.ue };
  known_is = λ side. shown_known l side ∙ r.known_is side;
}

carries_by : (known : Side → Bool) (l m : Link) → Ready known l → Brings none_forged l m → Carries known l m
carries_by known l m r b = record {
  more = b.more;
  out_is = b.out_is;
  ups_are = λ side sent. b.ups_are side sent
      ∙ ap (λ (k : Bool). brought k side (arrived side sent b.more)) (r.known_is side);
}

-- ---- a TTI of a drain, and the timers behind it

none_bring : (l : Link) → Brings none_forged l l
none_bring l = record {
  more = [];
  out_is = sym (append-nil l.out);
  ups_are = λ side sent. sym (none_brought (has_zero side l) side);
}

senders_bring : (b : Bool) (l : Link) → HaveCome l → Brings none_forged l (senders_unless b l)
senders_bring true l h = none_bring l
senders_bring false l h = calls_bring calls.SendersExpire l tt h

round_carries : (known : Side → Bool) (grant : ℕ) (l : Link) → grant ≤ 9422 → Ready known l
    → Carries known l (round grant l)
round_carries known grant l within r =
    let m = drain_tti grant l in
    let n = receivers_expire m in
    let o = senders_unless (carried m) n in
    let at_m = ready_on known _ l m (drain_goes grant l within).goes r in
    let at_n = ready_on known [] m n (call_goes_on calls.ReceiversExpire m tt) at_m in
    let to_m = carries_by known l m r (drains_bring grant l within r.ends) in
    let to_n = carries_by known m n at_m (calls_bring calls.ReceiversExpire m tt at_m.ends) in
    carries_then known l n o (carries_then known l m n to_m to_n)
    (carries_by known n o at_n (senders_bring (carried m) n at_n.ends))

-- ---- a part of a drain

abbrev AreBrought : (Side → Bool) → List Record → Type 0
AreBrought known told = (side : Side) (sent : List ℕ)
    → ups_in side 0 told ≡ brought (known side) side (arrived side sent told)

both_brought : (known : Side → Bool) (xs ys : List Record) → AreBrought known xs → AreBrought known ys
    → AreBrought known (xs ++ ys)
both_brought known xs ys p q side = ups_both (known side) side xs ys (p side) (q side)

-- where nothing was told before
alone : (known : Side → Bool) (l m : Link) → l.out ≡ [] → Carries known l m → AreBrought known m.out
alone known l m nothing c =
    subst (λ (x : List Record). AreBrought known x) (sym (c.out_is ∙ ap (λ (x : List Record). x ++ c.more) nothing))
    c.ups_are

record DrainBrings (known : Side → Bool) (d : Drained) : Type 0 where
  nothing : d.link.out ≡ []
  ready : Ready known d.link
  ups_are : AreBrought known d.journal

none_brings : (known : Side → Bool) (l : Link) → l.out ≡ [] → Ready known l → DrainBrings known (at_once l)
none_brings known l nothing r =
    record { nothing = nothing; ready = r; ups_are = λ side sent. sym (none_brought (known side) side) }

first_brings : (known : Side → Bool) (done : ℕ) (told : List Record) (d : Drained) → AreBrought known told
    → DrainBrings known d → DrainBrings known (behind told done d)
first_brings known done told d p q =
    record { nothing = q.nothing; ready = q.ready; ups_are = both_brought known told d.journal p q.ups_are }

all_bring : (n grant : ℕ) (known : Side → Bool) (l : Link) → grant ≤ 9422 → l.out ≡ [] → Ready known l
    → DrainBrings known (ttis n grant l)
all_bring zero grant known l within nothing r = none_brings known l nothing r
all_bring (suc n) grant known l within nothing r =
    let m = drain_tti grant l in
    first_brings known 0 m.out (ttis n grant (shown m))
    (alone known l m nothing (carries_by known l m r (drains_bring grant l within r.ends)))
    (all_bring n grant known (shown m) within refl
    (shown_ready known m (ready_on known _ l m (drain_goes grant l within).goes r)))

round_by : (n grant : ℕ) (known : Side → Bool) (l : Link) → grant ≤ 9422 → l.out ≡ [] → Ready known l → (b : Bool)
    → ((m : Link) → m.out ≡ [] → Ready known m → DrainBrings known (rounds n grant m))
    → DrainBrings known (behind (round_told b grant l) (done_by b) (rounds n grant (left_by b grant l)))
round_by n grant known l within nothing r true rest = let q = rest l nothing r in
    record { nothing = q.nothing; ready = q.ready; ups_are = q.ups_are }
round_by n grant known l within nothing r false rest =
    let m = round grant l in
    first_brings known 1 m.out (rounds n grant (shown m))
    (alone known l m nothing (round_carries known grant l within r))
    (rest (shown m) refl (shown_ready known m (ready_on known _ l m (round_goes grant l within).goes r)))

rounds_bring : (n grant : ℕ) (known : Side → Bool) (l : Link) → grant ≤ 9422 → l.out ≡ [] → Ready known l
    → DrainBrings known (rounds n grant l)
rounds_bring zero grant known l within nothing r = none_brings known l nothing r
rounds_bring (suc n) grant known l within nothing r =
    round_by n grant known l within nothing r (is_drained l) (λ m none q. rounds_bring n grant known m within none q)

end_brings : (known : Side → Bool) (done : ℕ) → AreBrought known (records.Drained done ∷ [])
end_brings known done side sent = sym (none_brought (known side) side)

drained_brings : (known : Side → Bool) (grant : ℕ) (l : Link) → grant ≤ 9422 → l.out ≡ [] → Ready known l
    → AreBrought known (drained grant l).journal
unfolding drained
drained_brings known grant l within nothing r =
    let d = ttis 8 grant l in
    let e = rounds (budget l) grant d.link in
    let p = all_bring 8 grant known l within nothing r in
    let q = rounds_bring (budget l) grant known d.link within p.nothing p.ready in
    let whole = behind d.journal 0 e in
    both_brought known whole.journal (records.Drained whole.done ∷ [])
    (both_brought known d.journal e.journal p.ups_are q.ups_are)
    (end_brings known whole.done)

-- ---- every line

abbrev LineBrings : Line → Link → Link → Type 0
LineBrings line l m = (side : Side)
    → ups_in side 0 m.out ≡ brought (has_zero side l) side (forged side line ++ arrived side [] m.out)

by_call : (f : Side → List (List ℕ)) (l m : Link) → l.out ≡ [] → Brings f l m → (side : Side)
    → ups_in side 0 m.out ≡ brought (has_zero side l) side (f side ++ arrived side [] m.out)
by_call f l m nothing b side =
    subst (λ (x : List Record). ups_in side 0 x ≡ brought (has_zero side l) side (f side ++ arrived side [] x))
    (sym (b.out_is ∙ ap (λ (x : List Record). x ++ b.more) nothing)) (b.ups_are side [])

line_brings : (line : Line) (keys : Option Keys) (l : Link) → l.out ≡ [] → IsInRange line → HaveCome l
    → LineBrings line l (played line keys l)
unfolding acted
line_brings (lines.Harq maximum) keys l nothing fits h side =
    by_call none_forged l _ nothing (calls_bring (calls.Visits maximum) l fits.some h) side
line_brings lines.Bsr keys l nothing fits h side =
    by_call none_forged l _ nothing (calls_bring calls.Reports l tt h) side
line_brings (lines.Keys ks) keys l nothing fits h side = by_call none_forged l l nothing (none_bring l) side
line_brings (lines.Bearer config options) keys l nothing fits h side =
    by_call none_forged l _ nothing (calls_bring (calls.Bears config (keys_or_none keys)) l fits h) side
line_brings (lines.Submit s lcid octets) keys l nothing fits h side =
    by_call none_forged l _ nothing (submissions_bring s lcid octets l h) side
line_brings (lines.Tti up_grant up down_grant down) keys l nothing fits h side =
    by_call none_forged l _ nothing (ttis_bring up_grant up down_grant down l fits.up fits.down h) side
line_brings (lines.Expire s lcid clock) keys l nothing fits h side =
    by_call none_forged l _ nothing (calls_bring (calls.Expires s lcid clock) l tt h) side
line_brings (lines.Handover user rrc integrity) keys l nothing fits h side =
    by_call none_forged l _ nothing
    (calls_bring (calls.HandsOver (next_keys user rrc integrity (keys_or_none keys))) l tt h) side
line_brings lines.LoopOff keys l nothing fits h side =
    by_call none_forged l _ nothing (calls_bring (calls.Loops Off) l tt h) side
line_brings (lines.LoopA size) keys l nothing fits h side =
    by_call none_forged l _ nothing (calls_bring (calls.Loops (A size)) l tt h) side
line_brings (lines.LoopB delay) keys l nothing fits h side =
    by_call none_forged l _ nothing (calls_bring (calls.Loops (B delay)) l tt h) side
line_brings (lines.Drain grant) keys l nothing fits h side =
    let known : Side → Bool = λ s. has_zero s l in
    drained_brings known grant l fits nothing (record { ends = h; known_is = λ s. refl }) side []
line_brings (lines.Forge s octets) keys l nothing fits h side =
    by_call (λ t. forged t (lines.Forge s octets)) l _ nothing (calls_bring (calls.Forges s octets) l tt h) side
line_brings (lines.Discard lcid count) keys l nothing fits h side =
    by_call none_forged l _ nothing (calls_bring (calls.Discards lcid count) l tt h) side
line_brings (lines.Drx config) keys l nothing fits h side =
    by_call none_forged l _ nothing (calls_bring (calls.Listens config) l tt h) side
line_brings lines.End keys l nothing fits h side = by_call none_forged l l nothing (none_bring l) side

-- ---- a bearer of LCID 0 is there where its line came

same_lcid : (n : ℕ) → (n == 0) ≡ true → n ≡ 0
same_lcid n e = grind (arith, nat_tests)

there_now : (b : Of Life) (bs : List (Of Life)) (n : ℕ) → b.channel.lcid ≡ n → (n == 0) ≡ true
    → has 0 (insert bs (place n bs) b) ≡ true
there_now b bs n own e =
    subst (λ (m : ℕ). has m (insert bs (place n bs) b) ≡ true) (own ∙ same_lcid n e)
    (subst (λ (m : ℕ). has b.channel.lcid (insert bs (place m bs) b) ≡ true) own (insert_stands b bs).there)

comes_now : (line : Line) (keys : Option Keys) (l : Link) → adds_zero line ≡ true → (side : Side)
    → has_zero side (played line keys l) ≡ true
unfolding acted Rattle.air_link.specs.Lines.bears Rattle.l2_node.specs.End.with_bearer begun
comes_now (lines.Bearer config options) keys l e Nb =
    there_now (begun config (keys_or_none keys) l.nb.side) l.nb.bearers config.channel.lcid refl e
comes_now (lines.Bearer config options) keys l e Ue =
    there_now (begun config (keys_or_none keys) l.ue.side) l.ue.bearers config.channel.lcid refl e
comes_now line keys l e side = absurd cc

adds_none : (line : Line) (keys : Option Keys) → adds_zero line ≡ false → AddNone 0 (lives_by line keys)
adds_none (lines.Bearer config options) keys e = (e, tt)
adds_none (lines.Handover user rrc integrity) keys e = (refl, tt)
adds_none line keys e = tt

end_has_come : (side : Side) (past : List Group) → KeepsOrder past → HasCome side (end_of side (link_behind past))
end_has_come side past order = let by = come side past order in
    record { maximum = 4; reports = false; calls = by.calls; given = by.given; end_is = by.end_is }

pub have_come : (past : List Group) → KeepsOrder past → HaveCome (link_behind past)
have_come past order = record { nb = end_has_come Nb past order; ue = end_has_come Ue past order }

shown_has : (side : Side) (g : Group) (past : List Group)
    → has_zero side (link_behind (g ∷ past)) ≡ has_zero side (behind_line g.line (state_behind past))
shown_has Nb g past = refl
shown_has Ue g past = refl

zero_first : (side : Side) → has_zero side fresh_link ≡ false
unfolding fresh_link fresh_end
zero_first Nb = refl
zero_first Ue = refl

zero_behind : (side : Side) (past : List Group) → KeepsOrder past → has_zero side (link_behind past) ≡ is_added past
unfolding fresh
zero_behind side [] order = zero_first side
zero_behind side (g ∷ past) (right, order) = by (adds_zero g.line) refl (zero_behind side past order)
  where
    by : (b : Bool) → adds_zero g.line ≡ b → has_zero side (link_behind past) ≡ is_added past
        → has_zero side (link_behind (g ∷ past)) ≡ adds_zero g.line || is_added past
    by true e before = shown_has side g past
        ∙ comes_now g.line (state_behind past).rules.keys (link_behind past) e side
        ∙ sym (ap (λ (b : Bool). b || is_added past) e)
    by false e before =
        zero_stays (lives_by g.line (state_behind past).rules.keys) side g.events (end_of side (link_behind past))
        (end_of side (link_behind (g ∷ past))) (goes side past g right order)
        (adds_none g.line (state_behind past).rules.keys e) (end_has_come side past order)
        ∙ before ∙ sym (ap (λ (b : Bool). b || is_added past) e)

-- ---- behind groups

pub bring_in_order : (past : List Group) → KeepsOrder past → BringInOrder past
bring_in_order [] order = tt
bring_in_order (g ∷ past) (right, order) =
    let l = link_behind past in
    let one : IsBrought past g = λ side.
    subst (λ (x : List Record). ups_in side 0 x
    ≡ brought (is_added past) side (forged side g.line ++ arrived side [] x)) (sym right.events_are)
    (subst (λ (k : Bool). ups_in side 0 (behind_line g.line (state_behind past)).out
    ≡ brought k side (forged side g.line ++ arrived side [] (behind_line g.line (state_behind past)).out))
    (zero_behind side past order)
    (line_brings g.line (state_behind past).rules.keys l (all_behind past order).nothing right.in_range
    (have_come past order) side)) in
    (one, bring_in_order past order)

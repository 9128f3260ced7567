-- An end and what is under way from it, as it gets a call and as it visits a process.
use Rattle.std.proofs.Common.{◌≡◌, ◌<◌, ◌≤◌, ℕ, ◌+◌, ◌%◌, ◌==◌, Bool, true, false, not, Option, Some, None, option_map}
use Rattle.std.proofs.Common.{IfSome, List, [], ◌++◌, length, refl, ap, sym, subst, ◌∙◌, arith, inl, inr}
use Rattle.std.specs.Prelude.{is_some, unwrap_or, slice_get}
use Rattle.std.specs.List.{AllByRecursion, filter}
use Rattle.std.proofs.lemmas.Bool.{cases_eq}
use Rattle.std.proofs.lemmas.Bool.Decides.{nat_tests}
use Rattle.harq.specs.declared.sender.Visit.{Visit}
use Rattle.harq.specs.declared.sender.Visit.TheVariants.{New, Resend, Silent}
use Rattle.harq.specs.Sending.{Sending, SendProcess, Block as HeldBlock, process_at, visited as process_visited}
use Rattle.harq.specs.Sending.{visit_answer, after_visit, held_of}
use Rattle.harq.specs.SendHistory.{closed, turned}
use Rattle.l2_node.specs.Building.{IsEnough, visit, visited, loaded, built_by, built}
use Rattle.l2_node.specs.End.{End}
use Rattle.l2_node.specs.Writing.{new_block}
use Rattle.l2_types.specs.declared.side.Side.{Side}
use Rattle.law_node.specs.Calls.{Turn, Call, Visits, IsGiven as IsGivenCall, answered, after}
use Rattle.law_node.specs.Processes.{sender_turn}
use Rattle.air_link.specs.Downlink.{block_at as sent_at}
use Rattle.law_run.proofs.AnyCalls.Blocks.{reached_whole, block_is, some_by}
use Rattle.law_deliver.specs.AmFlow.Air.{Block, Station, built_at, HasCome, IsHeld as IsHeldStill, IsVisiting}
use Rattle.law_deliver.proofs.AmFlow.Loads.{all_at}
use Rattle.law_deliver.proofs.AmFlow.Stations.{come_more}
use Rattle.law_run.specs.TwoEnds.On.{until, block_at, IsHeld, IsFlying, IsStation}
use Rattle.law_run.proofs.TwoEnds.Flying.{keep_all, keep_flying, flies}
use Rattle.law_run.proofs.TwoEnds.Processes.{IsNext, IsFirst, IsResent, resent_held, visit_other, visit_at, Turns}
use Rattle.law_run.proofs.TwoEnds.Processes.{turned_turns}

-- ---- moments of a TTI: an end waits for its visit, or has had it

pub data Moment : Type 0 where
  Waits : ℕ → Moment
  Done : ℕ → Moment

-- the TTIs until the next visit of a process
abbrev pub wait : Moment → ℕ → ℕ
wait (Waits t) p = until t p
wait (Done t) p = until (t + 1) p + 1

abbrev pub IsIdle : Moment → Station → Type 0
IsIdle (Waits t) s = s.busy ≡ false
IsIdle (Done t) s = Unit {0}

until_later : (t p : ℕ) → p < 8 → (p ≡ t % 8 → ⊥) → until t p ≡ until (t + 1) p + 1
until_later t p within apart = omega (arith, apart)

until_here : (t p : ℕ) → p ≡ t % 8 → (until t p ≡ 0) × (until (t + 1) p ≡ 7)
until_here t p here = (omega (arith, here), omega (arith, here))

-- ---- a call that leaves the processes alone

pub station_goes : (side : Side) (w : ℕ → ℕ) (s : Station) (c : Call) → IsStation side w s → IsGivenCall c
    → (after s.end c).sender ≡ s.end.sender → IsStation side w (record s { end = after s.end c })
station_goes side w s c h g e = record {
  come = come_more side s.end c h.come g;
  some = subst (λ (x : Sending). 1 ≤ x.maximum) (sym e) h.some;
  few = subst (λ (x : Sending). x.maximum ≤ 28) (sym e) h.few;
  held = subst (λ (x : Sending). AllByRecursion (IsHeld w x) s.blocks) (sym e) h.held;
  flying = λ p n. h.flying p (λ none. n (ap (λ (x : Sending). block_at x p) e ∙ none));
}

pub come_eight : (side : Side) (e : End) → HasCome side e → length e.sender.processes ≡ 8
come_eight side e h =
    subst (λ (x : End). length x.sender.processes ≡ 8) (sym h.end_is)
    (reached_whole side h.maximum h.reports h.past).eight

-- ---- a visit, at HARQ's sender

closes : (v : Visit) (t : Turn) (e : End) → (answered v t (built_by v t.tti t.grant (visited t.tti t.order e))).sender
    ≡ closed v (sender_turn e t) (after_visit e.sender t.tti t.order)
unfolding visited loaded
closes New t e = refl
closes (Resend rv) t e = refl
closes Silent t e = refl

sender_is : (t : Turn) (e : End) → (after e (Visits t)).sender ≡ turned (sender_turn e t) e.sender
unfolding built
sender_is t e = closes (visit t.tti t.order e) t e

end_turns : (side : Side) (t : Turn) (e : End) → HasCome side e
    → Turns (sender_turn e t) e.sender (after e (Visits t)).sender
end_turns side t e h =
    subst (Turns (sender_turn e t) e.sender) (sym (sender_is t e))
    (turned_turns (sender_turn e t) e.sender (come_eight side e h))

-- ---- a block under way, behind a visit

other_held : (t : ℕ) (s r : Sending) (b : Block) → r.maximum ≡ s.maximum → (b.process ≡ t % 8 → ⊥)
    → block_at r b.process ≡ block_at s b.process → IsHeld (until t) s b → IsHeld (wait (Done t)) r b
other_held t s r b most apart same h =
    let later = until_later t b.process h.process apart in
    let age = h.age_is in
    record {
      process = h.process;
      held = h.held;
      held_is = same ∙ h.held_is;
      octets_are = h.octets_are;
      some = h.some;
      age_is = omega (arith, age, later, most);
    }

same_held : (x y : HeldBlock) (o : Option HeldBlock) → o ≡ Some x → o ≡ Some y → x ≡ y
same_held x y o p q = let e : Some x ≡ Some y = sym p ∙ q in cc

again_held : (t : ℕ) (s r : Sending) (b : Block) (now : HeldBlock) → r.maximum ≡ s.maximum → b.process ≡ t % 8
    → block_at r (t % 8) ≡ Some now → IsNext (block_at s (t % 8)) now → IsHeld (until t) s b
    → IsHeld (wait (Done t)) r b
again_held t s r b now most here is n h =
    let same : n.was ≡ h.held =
    same_held n.was h.held (block_at s (t % 8)) n.before_is (ap (block_at s) (sym here) ∙ h.held_is) in
    let left : n.was.left ≡ h.held.left = ap (λ (x : HeldBlock). x.left) same in
    let zero' = (until_here t b.process here).0 in
    let seven = (until_here t b.process here).1 in
    let age = h.age_is in
    let less = n.left_is in
    record {
      process = h.process;
      held = now;
      held_is = ap (block_at r) here ∙ is;
      octets_are = n.octets_are ∙ ap (λ (x : HeldBlock). x.octets) same ∙ h.octets_are;
      some = n.some;
      age_is = omega (arith, age, left, less, zero', seven, most);
    }

new_held : (t : ℕ) (s r : Sending) (octets : List ℕ) (now : HeldBlock) → r.maximum ≡ s.maximum
    → block_at r (t % 8) ≡ Some now → IsFirst octets s.maximum now
    → IsHeld (wait (Done t)) r (record { process = t % 8; octets = octets; age = 0 })
new_held t s r octets now most is f =
    let seven = (until_here t (t % 8) refl).1 in
    let left = f.left_is in
    record {
      process = omega arith;
      held = now;
      held_is = is;
      octets_are = f.octets_are;
      some = f.some;
      age_is = omega (arith, left, seven, most);
    }

-- ---- what is let go before a visit, and behind it

-- the block of a process that builds a new one
abbrev pub stays_by : Visit → ℕ → Block → Bool
stays_by New p b = not (b.process == p)
stays_by (Resend rv) p b = true
stays_by Silent p b = true

abbrev pub left_by : Visit → ℕ → Station → List Block
left_by v t s = filter (stays_by v (t % 8)) s.blocks

-- what no process holds
abbrev pub lasts : Sending → Block → Bool
lasts r b = is_some (block_at r b.process)

some_case : (P : HeldBlock → Type 0) (o : Option HeldBlock) → IfSome o P → is_some o ≡ true
    → (x : HeldBlock) × (o ≡ Some x) × P x
some_case P None h e = absurd cc
some_case P (Some x) h e = (x, refl, h)

some_from : (o : Option HeldBlock) → (o ≡ None → ⊥) → is_some o ≡ true
some_from None n = absurd (n refl)
some_from (Some x) n = refl

stays_new : (p : ℕ) (b : Block) → stays_by New p b ≡ true → b.process ≡ p → ⊥
stays_new p b e here = grind (arith, nat_tests)

new_stays : (p : ℕ) (b : Block) → (b.process ≡ p → ⊥) → stays_by New p b ≡ true
new_stays p b apart = grind (arith, nat_tests)

not_new : (v : Visit) (p : ℕ) (b : Block) → stays_by v p b ≡ true → b.process ≡ p → v ≡ New → ⊥
not_new New p b e here is = stays_new p b e here
not_new (Resend rv) p b e here is = cc
not_new Silent p b e here is = cc

apart_stays : (v : Visit) (p : ℕ) (b : Block) → (b.process ≡ p → ⊥) → stays_by v p b ≡ true
apart_stays New p b apart = new_stays p b apart
apart_stays (Resend rv) p b apart = refl
apart_stays Silent p b apart = refl

-- ---- what is under way behind a visit

module _ (side : Side) (t : Turn) (s : Station) (h : IsStation side (until t.tti) s) where
  abbrev r : Sending
  r = (after s.end (Visits t)).sender

  abbrev turns : Turns (sender_turn s.end t) s.end.sender r
  turns = end_turns side t s.end h.come

  -- where it lasts
  abbrev IsHeldThen : Block → Type 0
  IsHeldThen b = lasts r b ≡ true → IsHeld (wait (Done t.tti)) r b

  old_then : (v : Visit) (b : Block) → visit t.tti t.order s.end ≡ v → IsHeld (until t.tti) s.end.sender b
      → stays_by v (t.tti % 8) b ≡ true → IsHeldThen b
  old_then v b e held stays last = elim (cases_eq b.process (t.tti % 8)) [
    | inl here ↦
        let old = turns.old (λ n. not_new v (t.tti % 8) b stays here (sym e ∙ n)) in
        let x = some_case (IsNext (block_at s.end.sender (t.tti % 8))) (block_at r (t.tti % 8)) old
        (subst (λ (p : ℕ). is_some (block_at r p) ≡ true) here last) in
        again_held t.tti s.end.sender r b x.0 turns.maximum_is here x.1 x.2 held
    | inr apart ↦ other_held t.tti s.end.sender r b turns.maximum_is apart (turns.others b.process apart) held
  ]

  new_then : visit t.tti t.order s.end ≡ New
      → IsHeldThen (record { process = t.tti % 8; octets = new_block (visited t.tti t.order s.end) t.grant; age = 0 })
  new_then e last =
      let octets = new_block (visited t.tti t.order s.end) t.grant in
      let x = some_case (IsFirst octets s.end.sender.maximum) (block_at r (t.tti % 8)) (turns.new e) last in
      new_held t.tti s.end.sender r octets x.0 turns.maximum_is x.1 x.2

  all_then : (v : Visit) → visit t.tti t.order s.end ≡ v
      → AllByRecursion IsHeldThen (built_at v t (visited t.tti t.order s.end) ++ left_by v t.tti s)
  all_then New e = (
    new_then e,
    keep_all (IsHeld (until t.tti) s.end.sender) IsHeldThen (stays_by New (t.tti % 8))
        (λ b. old_then New b e) s.blocks h.held,
  )
  all_then (Resend rv) e =
      keep_all (IsHeld (until t.tti) s.end.sender) IsHeldThen (stays_by (Resend rv) (t.tti % 8))
      (λ b. old_then (Resend rv) b e) s.blocks h.held
  all_then Silent e =
      keep_all (IsHeld (until t.tti) s.end.sender) IsHeldThen (stays_by Silent (t.tti % 8)) (λ b. old_then Silent b e)
      s.blocks h.held

  -- a block of each process that holds one

  behind : (v : Visit) (p : ℕ) → IsFlying p (left_by v t.tti s)
      → IsFlying p (built_at v t (visited t.tti t.order s.end) ++ left_by v t.tti s)
  behind New p f = inr f
  behind (Resend rv) p f = f
  behind Silent p f = f

  held_before : (o : Option HeldBlock) → IfSome o (IsNext (block_at s.end.sender (t.tti % 8))) → (o ≡ None → ⊥)
      → block_at s.end.sender (t.tti % 8) ≡ None → ⊥
  held_before None x some none = some refl
  held_before (Some b) x some none = let no : None ≡ Some x.was = sym none ∙ x.before_is in cc

  flies_here : (v : Visit) → visit t.tti t.order s.end ≡ v → (block_at r (t.tti % 8) ≡ None → ⊥)
      → IsFlying (t.tti % 8) (built_at v t (visited t.tti t.order s.end) ++ left_by v t.tti s)
  flies_here New e some = inl refl
  flies_here (Resend rv) e some =
      let old : visit t.tti t.order s.end ≡ New → ⊥ = λ n. let no : Resend rv ≡ New = sym e ∙ n in cc in
      keep_flying (t.tti % 8) (stays_by (Resend rv) (t.tti % 8)) (λ b is. refl) s.blocks
      (h.flying (t.tti % 8) (held_before (block_at r (t.tti % 8)) (turns.old old) some))
  flies_here Silent e some =
      let old : visit t.tti t.order s.end ≡ New → ⊥ = λ n. let no : Silent ≡ New = sym e ∙ n in cc in
      keep_flying (t.tti % 8) (stays_by Silent (t.tti % 8)) (λ b is. refl) s.blocks
      (h.flying (t.tti % 8) (held_before (block_at r (t.tti % 8)) (turns.old old) some))

  flies_then : (v : Visit) (p : ℕ) → visit t.tti t.order s.end ≡ v → (block_at r p ≡ None → ⊥)
      → IsFlying p (built_at v t (visited t.tti t.order s.end) ++ left_by v t.tti s)
  flies_then v p e some = elim (cases_eq p (t.tti % 8)) [
    | inl here ↦
        subst (λ (q : ℕ). IsFlying q (built_at v t (visited t.tti t.order s.end) ++ left_by v t.tti s)) (sym here)
        (flies_here v e (subst (λ (q : ℕ). block_at r q ≡ None → ⊥) here some))
    | inr apart ↦
        behind v p
        (keep_flying p (stays_by v (t.tti % 8))
        (λ b is. apart_stays v (t.tti % 8) b (λ here. apart (sym is ∙ here))) s.blocks
        (h.flying p (λ none. some (turns.others p apart ∙ none))))
  ]

  pub turned_station : (v : Visit) (busy : Bool) → visit t.tti t.order s.end ≡ v → IsGivenCall (Visits t)
      → IsStation side (wait (Done t.tti))
      (record {
        end = after s.end (Visits t);
        blocks = filter (lasts r) (built_at v t (visited t.tti t.order s.end) ++ left_by v t.tti s);
        busy = busy;
      })
  turned_station v busy e g = record {
    come = come_more side s.end (Visits t) h.come g;
    some = subst (λ (m : ℕ). 1 ≤ m) (sym turns.maximum_is) h.some;
    few = subst (λ (m : ℕ). m ≤ 28) (sym turns.maximum_is) h.few;
    held = keep_all IsHeldThen (IsHeld (wait (Done t.tti)) r) (lasts r) (λ b held last. held last)
        (built_at v t (visited t.tti t.order s.end) ++ left_by v t.tti s) (all_then v e);
    flying =
        λ p some. keep_flying p (lasts r)
        (λ b is. subst (λ (q : ℕ). is_some (block_at r q) ≡ true) (sym is) (some_from (block_at r p) some)) _
        (flies_then v p e some);
  }

  -- ---- as a new block is built

  held_still : (b : Block) → IsHeld (until t.tti) s.end.sender b → stays_by New (t.tti % 8) b ≡ true
      → IsHeldStill (visited t.tti t.order s.end).sender b
  unfolding visited held_of
  held_still b held stays none =
      let same = visit_other s.end.sender t.tti t.order b.process (stays_new (t.tti % 8) b stays) in
      let is : held_of (after_visit s.end.sender t.tti t.order) b.process ≡ Some held.held.octets =
      ap (option_map (λ (x : HeldBlock). x.octets)) (same ∙ held.held_is) in
      let no : None ≡ Some held.held.octets = sym none ∙ is in cc

  pub is_visiting : (v : Visit) → visit t.tti t.order s.end ≡ v → IsEnough t.order t.grant → s.busy ≡ false
      → IsVisiting v (record s { blocks = left_by v t.tti s }) t
  is_visiting New e enough idle = record {
    some = some_by t.tti t.grant t.order s.end enough e;
    one = idle;
    held = keep_all (IsHeld (until t.tti) s.end.sender) (IsHeldStill (visited t.tti t.order s.end).sender)
        (stays_by New (t.tti % 8)) held_still s.blocks h.held;
  }
  is_visiting (Resend rv) e enough idle = tt
  is_visiting Silent e enough idle = tt

  -- ---- the block that is sent is under way

  pub record Sends (v : Visit) : Type 0 where
    pub place : ℕ
    pub block : Block
    pub there : slice_get (built_at v t (visited t.tti t.order s.end) ++ left_by v t.tti s) place ≡ Some block
    pub octets_are : block.octets ≡ sent_at t.tti (built t.tti t.grant t.order s.end)
    pub process_is : block.process ≡ t.tti % 8

  pub sends_new : visit t.tti t.order s.end ≡ New → Sends New
  sends_new e = record {
    place = 0;
    block = record { process = t.tti % 8; octets = new_block (visited t.tti t.order s.end) t.grant; age = 0 };
    there = refl;
    octets_are = sym (block_is t.tti t.grant t.order s.end (come_eight side s.end h.come) e);
    process_is = refl;
  }

  resent_octets : (rv : ℕ)
      (x : IsResent rv (process_at s.end.sender t.tti) (process_visited t.order (process_at s.end.sender t.tti)).held)
      → visit t.tti t.order s.end ≡ Resend rv
      → sent_at t.tti (built t.tti t.grant t.order s.end) ≡ x.was.octets
  unfolding built visited held_of
  resent_octets rv x e =
      let eight = come_eight side s.end h.come in
      let at : (process_at (after_visit s.end.sender t.tti t.order) t.tti).held ≡ Some _ =
      ap (λ (p : SendProcess). p.held) (visit_at s.end.sender t.tti t.order eight) ∙ x.after_is in
      rw e (ap (λ (o : Option HeldBlock). unwrap_or (option_map (λ (b : HeldBlock). b.octets) o) []) at)

  pub sends_again : (rv : ℕ) → visit t.tti t.order s.end ≡ Resend rv → Sends (Resend rv)
  unfolding visit_answer
  sends_again rv e =
      let x = resent_held t.order (process_at s.end.sender t.tti) rv e in
      let some : block_at s.end.sender (t.tti % 8) ≡ None → ⊥ = λ none. let no : None ≡ Some x.was =
      sym none ∙ x.held_is in cc in
      let stays = stays_by (Resend rv) (t.tti % 8) in
      let f =
      flies (t.tti % 8) (left_by (Resend rv) t.tti s)
      (keep_flying (t.tti % 8) stays (λ b is. refl) s.blocks (h.flying (t.tti % 8) some)) in
      let all = keep_all (IsHeld (until t.tti) s.end.sender) (IsHeld (until t.tti) s.end.sender) stays
      (λ b held is. held) s.blocks h.held in
      let held = all_at (IsHeld (until t.tti) s.end.sender) (left_by (Resend rv) t.tti s) f.place f.block all f.there in
      let same : held.held ≡ x.was =
      same_held held.held x.was (block_at s.end.sender (t.tti % 8))
      (ap (block_at s.end.sender) (sym f.process_is) ∙ held.held_is) x.held_is in
      record {
        place = f.place;
        block = f.block;
        there = f.there;
        octets_are = sym held.octets_are ∙ ap (λ (b : HeldBlock). b.octets) same ∙ sym (resent_octets rv x e);
        process_is = f.process_is;
      }

-- What is handed up later stands at later places.
use Rattle.std.proofs.Common.{◌≡◌, ℕ, ◌+◌, List, [], ◌∷◌, ◌++◌, length, refl, ap, sym, subst, ◌∙◌}
use Rattle.l2_num.specs.Ascending.{AreBetween}
use Rattle.rlc_pdu.specs.Pdus.{IsUmBits}
use Rattle.rlc_um.specs.Sender.{width_of}
use Rattle.rlc_um.specs.Receiver.{all_joined}
use Rattle.bearer.specs.declared.flow.Flow.TheVariants.{Um}
use Rattle.bearer.specs.Unacknowledged.State.{State}
use Rattle.law_bearer.specs.AnyBearer.Calls.{Call}
use Rattle.law_bearer.specs.AnyBearer.Stream.{stream}
use Rattle.law_rlc.specs.UmPair.Run.{Call as ReceiverCall, World, run_um_receiver, fresh}
use Rattle.law_rlc.specs.UmPair.Send.{Step as SenderStep, Flow, flow, at_first}
use Rattle.law_rlc.specs.UmPair.Which.{HasMore, GoesOn as RunGoesOn}
use Rattle.law_words.specs.Lists.{those}
use Rattle.law_rlc.proofs.UmPair.Which.{those_left, those_then}
use Rattle.law_rlc.proofs.UmPair.Later.{more_go_up_later}
use Rattle.law_deliver.specs.UmFlow.Pair.{Pair, Step, Near, Far, happens, goes, um_pair_outset, AreGiven, AreShortThere}
use Rattle.law_deliver.specs.UmFlow.Pair.{AreShortBack}
use Rattle.law_deliver.specs.UmFlow.Calls.{near_calls, far_calls}
use Rattle.law_deliver.specs.UmFlow.Handing.{all_called}
use Rattle.law_deliver.specs.UmFlow.Lives.{BeginsLife}
use Rattle.law_deliver.specs.UmFlow.Runs.{all_sender_steps, all_receiver_calls}
use Rattle.law_deliver.specs.UmFlow.Flows.{Way, there, back, given, heard, sends, receives, places, last_places, behind}
use Rattle.law_deliver.specs.UmFlow.Flows.{Follow, IsWhatCameInLife, GoesOn}
use Rattle.law_deliver.proofs.UmFlow.Calls.{steps_then, receives_then, stream_then, near_then, far_then}
use Rattle.law_deliver.proofs.UmFlow.Flows.{hands_up_what_came}

-- ---- places behind others

between_behind : (low : ℕ) (xs ys : List ℕ) (end : ℕ) → AreBetween low (xs ++ ys) end
    → AreBetween (behind low xs) ys end
between_behind low [] ys end h = h
between_behind low (x ∷ xs) ys end h = between_behind (x + 1) xs ys end h.1

follow_so : (so_far later : List ℕ) (old new pdus more : List (List ℕ)) → HasMore so_far later
    → AreBetween 0 so_far (length pdus) → old ≡ those so_far pdus
    → AreBetween 0 later (length (pdus ++ more)) → new ≡ those later (pdus ++ more)
    → Follow so_far later old new (pdus ++ more)
follow_so so_far later old new pdus more m order was later_order is =
    let all : List (List ℕ) = pdus ++ more in
    record {
      rest = m.rest;
      later_is = m.is;
      order =
          between_behind 0 so_far m.rest (length all)
          (subst (λ (l : List ℕ). AreBetween 0 l (length all)) m.is later_order);
      new_is =
          is ∙ ap (λ (l : List ℕ). those l all) m.is ∙ those_then so_far m.rest all
          ∙ ap (λ (l : List (List ℕ)). l ++ those m.rest all) (those_left 0 so_far pdus more order ∙ sym was);
    }

-- ---- the runs of a way that goes on

record Extends (w v : Way) : Type 0 where
  from_more : List Call
  to_more : List Call
  from_is : v.from ≡ w.from
  to_is : v.to ≡ w.to
  from_calls_are : v.from_calls ≡ w.from_calls ++ from_more
  to_calls_are : v.to_calls ≡ w.to_calls ++ to_more

runs_on : (bits reorder : ℕ) (w v : Way) → IsUmBits bits → Extends w v
    → RunGoesOn (width_of bits) (sends bits w) (sends bits v) (receives bits reorder w) (receives bits reorder v)
runs_on bits reorder w v u e =
    let c : State = all_called w.from w.from_calls in
    let d : State = all_called w.to w.to_calls in
    let ss : List SenderStep = all_sender_steps w.from w.from_calls in
    let cs : List ReceiverCall = all_receiver_calls w.to w.to_calls in
    let steps : all_sender_steps v.from v.from_calls ≡ ss ++ all_sender_steps c e.from_more =
    ap (λ (a : State). all_sender_steps a v.from_calls) e.from_is ∙ ap (all_sender_steps w.from) e.from_calls_are
    ∙ steps_then w.from w.from_calls e.from_more in
    let calls : all_receiver_calls v.to v.to_calls ≡ cs ++ all_receiver_calls d e.to_more =
    ap (λ (a : State). all_receiver_calls a v.to_calls) e.to_is ∙ ap (all_receiver_calls w.to) e.to_calls_are
    ∙ receives_then w.to w.to_calls e.to_more in
    let width : ℕ = width_of bits in
    let f : Flow = flow ss (at_first bits) in
    let x : World = run_um_receiver cs (fresh width reorder) in
    subst (λ (l : List SenderStep). RunGoesOn width f (flow l (at_first bits)) x (receives bits reorder v)) (sym steps)
    (subst (λ (l : List ReceiverCall). RunGoesOn width f (flow (ss ++ all_sender_steps c e.from_more) (at_first bits))
    x (run_um_receiver l (fresh width reorder))) (sym calls)
    (more_go_up_later bits reorder ss (all_sender_steps c e.from_more) cs (all_receiver_calls d e.to_more) u))

later_so : (bits reorder : ℕ) (w v : Way) → IsUmBits bits → Extends w v → IsWhatCameInLife bits reorder w
    → IsWhatCameInLife bits reorder v → GoesOn bits reorder w v
later_so bits reorder w v u e a b =
    let more : List (List ℕ) = stream (Um (all_called w.from w.from_calls)) e.from_more in
    let pdus : given v ≡ given w ++ more =
    ap (λ (s : State). stream (Um s) v.from_calls) e.from_is ∙ ap (stream (Um w.from)) e.from_calls_are
    ∙ stream_then w.from w.from_calls e.from_more in
    let m = runs_on bits reorder w v u e in
    let last : List (List ℕ) = heard v ++ all_joined v.to_end.bearer.rx in
    record {
      up = subst (λ (l : List (List ℕ)). Follow (places bits reorder w) (places bits reorder v) (heard w) (heard v) l)
          (sym pdus)
          (follow_so (places bits reorder w) (places bits reorder v) (heard w) (heard v) (given w) more m.up a.order
          a.heard_is
          (subst (λ (l : List (List ℕ)). AreBetween 0 (places bits reorder v) (length l)) pdus b.order)
          (b.heard_is ∙ ap (those (places bits reorder v)) pdus));
      last =
          subst (λ (l : List (List ℕ)). Follow (places bits reorder w) (last_places bits reorder v) (heard w) last l)
          (sym pdus)
          (follow_so (places bits reorder w) (last_places bits reorder v) (heard w) last (given w) more m.last a.order
          a.heard_is
          (subst (λ (l : List (List ℕ)). AreBetween 0 (last_places bits reorder v) (length l)) pdus b.last_order)
          (b.last_is ∙ ap (those (last_places bits reorder v)) pdus));
    }

-- ---- what is asked of all steps is asked of the first

given_first : (xs ys : List Step) (p : Pair) → AreGiven p (xs ++ ys) → AreGiven p xs
given_first [] ys p g = tt
given_first (x ∷ xs) ys p g = (g.0, given_first xs ys (happens p x) g.1)

there_first : (xs ys : List Step) (p : Pair) → AreShortThere p (xs ++ ys) → AreShortThere p xs
there_first [] ys p g = tt
there_first (Near d ∷ xs) ys p g = there_first xs ys (happens p (Near d)) g
there_first (Far d ∷ xs) ys p g = (g.0, there_first xs ys (happens p (Far d)) g.1)

back_first : (xs ys : List Step) (p : Pair) → AreShortBack p (xs ++ ys) → AreShortBack p xs
back_first [] ys p g = tt
back_first (Near d ∷ xs) ys p g = (g.0, back_first xs ys (happens p (Near d)) g.1)
back_first (Far d ∷ xs) ys p g = back_first xs ys (happens p (Far d)) g

-- ---- the law

pub more_comes_later : (bits n f : ℕ) (near far : State) (steps more : List Step) → IsUmBits bits
    → BeginsLife bits n near → BeginsLife bits f far → AreGiven (um_pair_outset near far) (steps ++ more)
    → (AreShortThere (um_pair_outset near far) (steps ++ more)
    → GoesOn bits f (there near far steps) (there near far (steps ++ more)))
    × (AreShortBack (um_pair_outset near far) (steps ++ more)
    → GoesOn bits n (back near far steps) (back near far (steps ++ more)))
more_comes_later bits n f near far steps more u h k g =
    let p : Pair = um_pair_outset near far in
    let xs : List Call = near_calls (goes steps p) more in
    let ys : List Call = far_calls (goes steps p) more in
    let near_is = near_then steps more p in
    let far_is = far_then steps more p in
    let so_far = hands_up_what_came bits n f near far steps u h k (given_first steps more p g) in
    let later = hands_up_what_came bits n f near far (steps ++ more) u h k g in (
      λ short. later_so bits f (there near far steps) (there near far (steps ++ more)) u
          (record {
            from_more = xs;
            to_more = ys;
            from_is = refl;
            to_is = refl;
            from_calls_are = near_is;
            to_calls_are = far_is;
          }) (so_far.0 (there_first steps more p short)) (later.0 short),
      λ short. later_so bits n (back near far steps) (back near far (steps ++ more)) u
          (record {
            from_more = ys;
            to_more = xs;
            from_is = refl;
            to_is = refl;
            from_calls_are = far_is;
            to_calls_are = near_is;
          }) (so_far.1 (back_first steps more p short)) (later.1 short),
    )

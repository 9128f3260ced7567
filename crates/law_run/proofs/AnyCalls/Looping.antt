-- What the test loop adds.
use Rattle.std.proofs.Common.{ℕ, Bool, true, false, ◌==◌, if◌then◌else◌, Option, Some, None, List, [], ◌∷◌, refl}
use Rattle.air_record.specs.declared.record.Record.TheVariants as records
use Rattle.bearer_types.specs.declared.event.Event.TheVariants.{Drop}
use Rattle.l2_bits.specs.declared.fault.SubmitRefusal.{SubmitRefusal}
use Rattle.l2_node.specs.Finding.{has}
use Rattle.l2_node.specs.Submitting.{refusal, submitted}
use Rattle.l2_types.specs.declared.event.Lost.TheVariants as losts
use Rattle.l2_types.specs.declared.side.Side.TheVariants.{Nb, Ue}
use Rattle.test_loop.specs.declared.Kept.{Kept}
use Rattle.test_loop.specs.declared.Kept.TheVariants.{Now, Later, Full}
use Rattle.test_loop.specs.declared.Mode.{Mode}
use Rattle.test_loop.specs.Items.{Item}
use Rattle.test_loop.specs.Loops.{is_on, taken_answer, after_taken, after_set}
use Rattle.air_link.specs.Link.{Link, says}
use Rattle.air_link.specs.Telling.{submits}
use Rattle.air_link.specs.Loops.{loses, returns_by, returns, returns_all, kept_by, takes, takes_all, loops, owed, paid}
use Rattle.air_link.specs.Loops.{pays, loop_set}
use Rattle.law_run.specs.AnyCalls.Counts.{ups, loopeds, gives_up}
use Rattle.law_run.specs.AnyCalls.Told.{Adds}
use Rattle.law_run.proofs.AnyCalls.Adding.{stays, adds_then, says_plain, same_grows, one_grows, kept_one, kept_none}
use Rattle.law_run.proofs.AnyCalls.Adding.{same_marked}
use Rattle.law_run.proofs.AnyCalls.Telling.{is_eq, is_apart}

loses_adds : (lcid : ℕ) (l : Link) → Adds [] l (loses lcid l)
loses_adds lcid l =
    says_plain (records.Of Ue (Drop lcid losts.Loop)) l
    (record { no_up = λ s k. refl; no_loop = λ k. refl; no_fail = λ s k. refl; no_run = refl })

-- ---- an SDU comes back

looped_adds : (lcid : ℕ) (octets : List ℕ) (l : Link)
    → Adds [] l (submits Ue lcid (says (records.Looped lcid octets) (record l { ue = submitted lcid octets l.ue })))
looped_adds lcid octets l =
    let one = records.Looped lcid octets in
    record {
      more = one ∷ [];
      out_is = refl;
      ttis_is = refl;
      told = record {
        nb_delivered = same_grows (λ k. ups Nb k (one ∷ [])) l.up.delivered l.up.delivered refl (λ k. refl);
        ue_delivered = same_grows (λ k. ups Ue k (one ∷ [])) l.down.delivered l.down.delivered refl (λ k. refl);
        nb_submitted = refl;
        ue_submitted =
            one_grows (λ k. loopeds k (one ∷ [])) l.up.submitted lcid (kept_one (lcid == lcid) one (is_eq lcid))
            (λ k apart. kept_none (lcid == k) one (is_apart lcid k apart));
        nb_failed = same_marked (λ k. gives_up Nb k (one ∷ [])) l.down.failed l.down.failed refl (λ k. refl);
        ue_failed = same_marked (λ k. gives_up Ue k (one ∷ [])) l.up.failed l.up.failed refl (λ k. refl);
        flown_is = refl;
        none_of_run = refl;
      };
    }

returns_by_adds : (r : Option SubmitRefusal) (lcid : ℕ) (octets : List ℕ) (l : Link)
    → Adds [] l (returns_by r lcid octets l)
returns_by_adds (Some broken) lcid octets l = loses_adds lcid l
returns_by_adds None lcid octets l = looped_adds lcid octets l

returns_if : (b : Bool) (lcid : ℕ) (octets : List ℕ) (l : Link)
    → Adds [] l (if b then returns_by (refusal lcid octets l.ue) lcid octets l else loses lcid l)
returns_if true lcid octets l = returns_by_adds (refusal lcid octets l.ue) lcid octets l
returns_if false lcid octets l = loses_adds lcid l

returns_adds : (lcid : ℕ) (octets : List ℕ) (l : Link) → Adds [] l (returns lcid octets l)
returns_adds lcid octets l = returns_if (has lcid l.ue.bearers) lcid octets l

returns_all_adds : (is : List Item) (l : Link) → Adds [] l (returns_all is l)
returns_all_adds [] l = stays l l refl
returns_all_adds (i ∷ is) l =
    let m = returns i.lcid i.octets l in
    adds_then [] [] l m (returns_all is m) (returns_adds i.lcid i.octets l) (returns_all_adds is m)

-- ---- an SDU is taken

kept_adds : (k : Kept) (lcid : ℕ) (l : Link) → Adds [] l (kept_by k lcid l)
kept_adds (Now octets) lcid l = returns_adds lcid octets l
kept_adds Later lcid l = stays l l refl
kept_adds Full lcid l = loses_adds lcid l

takes_if : (b : Bool) (i : Item) (l : Link)
    → Adds [] l (if b then kept_by (taken_answer l.looping i.octets) i.lcid
    (record l { looping = after_taken l.looping i }) else l)
takes_if true i l =
    let k = taken_answer l.looping i.octets in
    let m : Link = record l { looping = after_taken l.looping i } in
    adds_then [] [] l m (kept_by k i.lcid m) (stays l m refl) (kept_adds k i.lcid m)
takes_if false i l = stays l l refl

takes_adds : (i : Item) (l : Link) → Adds [] l (takes i l)
takes_adds i l = takes_if (is_on l.looping.mode) i l

takes_all_adds : (is : List Item) (l : Link) → Adds [] l (takes_all is l)
takes_all_adds [] l = stays l l refl
takes_all_adds (i ∷ is) l =
    adds_then [] [] l (takes i l) (takes_all is (takes i l)) (takes_adds i l) (takes_all_adds is (takes i l))

-- ---- the stages

pub loops_adds : (l : Link) → Adds [] l (loops l)
unfolding loops
loops_adds l =
    let m : Link = record l { ups = [] } in
    adds_then [] [] l m (takes_all l.ups m) (stays l m refl) (takes_all_adds l.ups m)

pub pays_adds : (l : Link) → Adds [] l (pays l)
unfolding pays
pays_adds l =
    let m : Link = record l { looping = paid l.looping } in
    adds_then [] [] l m (returns_all (owed l.looping) m) (stays l m refl) (returns_all_adds (owed l.looping) m)

pub loop_set_adds : (mode : Mode) (l : Link) → Adds [] l (loop_set mode l)
unfolding loop_set
loop_set_adds mode l =
    let m : Link = record l { looping = after_set l.looping mode } in
    adds_then [] [] l m (pays m) (stays l m refl) (pays_adds m)

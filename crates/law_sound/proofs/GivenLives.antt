-- What is gathered of what PDCP gives RLC stands beside both directions of a channel's bearers as they come, and as
-- both ends move.
use Rattle.std.proofs.Common.{◌≡◌, ℕ, Bool, ◌||◌, nat_lt, List, [], ◌∷◌, ◌++◌, map, length, Option}
use Rattle.std.proofs.Common.{refl, ap, sym, subst, ◌∙◌, arith}
use Rattle.bearer.specs.Acknowledged.State.{State}
use Rattle.bearer.specs.declared.flow.Flow.TheVariants.{Am}
use Rattle.bearer_types.specs.Sides.{other}
use Rattle.bearer_types.specs.declared.config.BearerConfig.{BearerConfig}
use Rattle.eps_sec.specs.declared.Keys.{Keys}
use Rattle.journal_account.specs.Stream.{is_in_sequence}
use Rattle.journal_given.specs.Giving.{lives_ended}
use Rattle.journal_given.specs.Laws.{SaysSo}
use Rattle.journal_given.specs.Supplies.{Bearer, History, histories, begun, come_by}
use Rattle.journal_lives.specs.FlowLives.{FlowLives}
use Rattle.journal_lives.specs.LifeEvents.{LifeEvent, LifeEnded, running, counts_in, came_before, count_came}
use Rattle.l2_node.specs.End.{End}
use Rattle.l2_num.specs.Least.{IsLeast}
use Rattle.l2_types.specs.declared.side.Side.{Side}
use Rattle.l2_types.specs.declared.side.Side.TheVariants.{Nb, Ue}
use Rattle.pdcp_rx.specs.State.{report}
use Rattle.pdcp_tx.specs.declared.sender.Next.{Next}
use Rattle.law_bearer.specs.AmBearer.Lives.{closed}
use Rattle.law_bearer.specs.AnyBearer.Calls.{Restart, goes}
use Rattle.law_bearer.proofs.AmBearer.Lives.{restarts_are_deeds}
use Rattle.law_deliver.specs.AmChannel.Arrival.{told_from}
use Rattle.law_deliver.specs.AmChannel.Delivery.{AmEndsBeginAlike}
use Rattle.law_deliver.specs.AmChannel.Lives.{AirStep, Moves, AreLiving}
use Rattle.law_deliver.specs.AmFlow.Air.{outset}
use Rattle.law_given.specs.Beside.{HasJustBegun, AreGivenBy}
use Rattle.law_given.specs.Confirming.{AreSizesTold}
use Rattle.law_given.specs.Joined.{Direction, IsDirection, Joins, IsTold, AreJoined, LifeBegins, pdcp, rlc, given_of}
use Rattle.law_given.specs.Saying.{AreThoseCome, IsLivedBeside, SaysAlike}
use Rattle.law_given.specs.Supplied.{IsReadAs}
use Rattle.law_given.specs.SupplyLaws.{IsInWindow}
use Rattle.law_given.proofs.BesideLives.{first_lives_begin_beside, next_lives_begin_beside}
use Rattle.law_given.proofs.Joined.{from_the_other}
use Rattle.law_given.proofs.JoinedReports.{read_in, first_in}
use Rattle.law_given.proofs.JoinedSteps.{lives_begin_joined, moved_told, no_pdus, least_as}
use Rattle.law_given.proofs.LandingReports.{reports_begin_in_window}
use Rattle.law_given.proofs.SayingCounts.{passes_alike, lives_say}
use Rattle.law_given.proofs.Tied.{AreTied, ties_begin}
use Rattle.law_rlc.specs.AmPair.Sdus.{handed_up}
use Rattle.law_words.specs.Arrivals.{Given, Account}
use Rattle.law_sound.proofs.Agreeing.{Agrees, same_come, sequence_by_passed, place_whole, agrees_ended}
use Rattle.law_sound.proofs.GivenMoments.{sizes_told}
use Rattle.law_sound.proofs.Groups.{none_agree}

-- ---- a direction beside the history of its lives

counts_given : (ns : List Next) → map (λ (g : Given). g.count) (map given_of ns) ≡ map (λ (n : Next). n.count) ns
counts_given [] = refl
counts_given (n ∷ ns) = ap (λ (os : List (Option ℕ)). n.count ∷ os) (counts_given ns)

none_up : (ups : List (List ℕ)) → length ups ≡ 0 → ups ≡ []
none_up [] q = refl
none_up (up ∷ ups) q = cc

module _ (c : BearerConfig) (d : Direction) (from to : State) (a : Account) (news ups : List (List ℕ))
    (is : IsDirection c d) (j : Joins d from to) (t : IsTold d a news ups) where
  module _ (es : List LifeEvent) (h : Agrees a es) where
    lived_so : IsLivedBeside es (pdcp d)
    lived_so = record {
      counts = sym h.counts ∙ ap (map (λ (g : Given). g.count)) (sym t.stream_is) ∙ counts_given (pdcp d).stream;
      few = (read_in c d is).few;
      handed = λ count.
          t.handed_is count ∙ same_come a es h count
          ∙ ap (λ (b : Bool). came_before es count || b)
          (passes_alike (is_in_sequence (running es)) (λ (k : ℕ). nat_lt k (pdcp d).passed) 0 (counts_in es) count
          (λ k le. sequence_by_passed a es (pdcp d).passed h t.passed_is k));
    }

    alike_so : SaysAlike es (pdcp d)
    alike_so = record {
      sequenced = λ k. sequence_by_passed a es (pdcp d).passed h t.passed_is k;
      whole = λ k. sym (place_whole a es h k) ∙ sym (t.whole_is k);
    }

    -- its end says what has come by the account of the flow, as the life ends
    said_so : (own : Option FlowLives) → SaysSo c.first (LifeEnded ∷ es) own
        → IsReadAs c.pdcp_bits (report (closed to)) (come_by own)
    said_so own says =
        subst (λ (bits : ℕ). IsReadAs bits (report (closed to)) (come_by own)) is.bits
        (lives_say c d from to es (come_by own) is j lived_so alike_so
        (subst (λ (first : ℕ). AreThoseCome (count_came (LifeEnded ∷ es)) first (come_by own)) (sym is.first)
        (record { next = says.next; ascend = says.ascend; beyond = says.beyond })))

    -- the first that hasn't come is so by the direction too
    least_so : (count : ℕ) → IsLeast (count_came es) c.first count
        → IsLeast (pdcp d).handed (pdcp d).first count
    least_so count least =
        subst (λ (first : ℕ). IsLeast (pdcp d).handed first count) (sym (first_in c d is))
        (least_as (count_came es) (pdcp d).handed c.first count
        (λ n. t.handed_is n ∙ same_come a es h n) least)

  -- where RLC was given nothing yet
  module _ (none : a.given ≡ []) where
    none_given : (pdcp d).stream ≡ []
    none_given = no_pdus (pdcp d).stream (t.stream_is ∙ none)

    none_passed : (pdcp d).passed ≡ 0
    none_passed =
        let few = (read_in c d is).few in
        let many = ap (length {A = Next}) none_given in
        omega (arith, few, many)

    just_begun : AreSizesTold (rlc d) [] → HasJustBegun d
    just_begun sizes = record {
      offered_none = sym j.stream_is ∙ ap (map (λ (n : Next). n.octets)) none_given;
      handed_none = none_up (handed_up (rlc d)) (sym j.passed_is ∙ none_passed);
      sizes = sizes;
    }

-- ---- the bearers come

pub given_begins : (l : ℕ) (c : BearerConfig) (keys : Keys) (nb ue : End) (begins : AmEndsBeginAlike l c keys nb ue)
    → let t = ties_begin l c keys nb ue begins in
    AreGivenBy c t.joined.there t.joined.back t.joined.one t.joined.two [] [] (begun histories c.first c.pdcp_bits)
    (begun histories c.first c.pdcp_bits)
given_begins l c keys nb ue begins =
    let t = ties_begin l c keys nb ue begins in
    let j = t.joined in
    first_lives_begin_beside c keys j.there j.back j.one j.two begins.kind (sym begins.nb_begun.bearer_is ∙ j.one_is)
    (sym begins.ue_begun.bearer_is ∙ j.two_is)
    (just_begun c j.there j.one j.two (told_from c l Nb [] (outset nb ue)) _ _ j.there_is j.there_joins j.there_told
    refl (sizes_told l c nb ue [] t Nb [] none_agree))
    (just_begun c j.back j.two j.one (told_from c l Ue [] (outset nb ue)) _ _ j.back_is j.back_joins j.back_told
    refl (sizes_told l c nb ue [] t Ue [] none_agree))

-- ---- both ends move

module _ (l : ℕ) (c : BearerConfig) (first : Keys) (nb ue : End) (steps : List AirStep) (keys : Keys)
    (begins : AmEndsBeginAlike l c first nb ue)
    (g : AreLiving l (outset nb ue) (steps ++ Moves keys ∷ [])) where
  abbrev told : Side → Account
  told from = told_from c l from steps (outset nb ue)

  abbrev told_then : Side → Account
  told_then from = told_from c l from (steps ++ Moves keys ∷ []) (outset nb ue)

  pub agrees_then : (from : Side) (es : List LifeEvent) → Agrees (told from) es
      → Agrees (told_then from) (LifeEnded ∷ es)
  agrees_then from es h =
      subst (λ (a : Account). Agrees a (LifeEnded ∷ es)) (sym (moved_told c l from steps keys (outset nb ue)))
      (agrees_ended (told from) es h)

  none_then : (from : Side) → (told_then from).given ≡ []
  none_then from = ap (λ (a : Account). a.given) (moved_told c l from steps keys (outset nb ue))

  -- an end restarts, and says what had come from the other in the window of the other's sender
  module _ (from : Side) (j : AreJoined l c nb ue from steps)
      (k : AreJoined l c nb ue from (steps ++ Moves keys ∷ [])) where
    begins_so : LifeBegins l c nb ue from steps keys j k
    begins_so = lives_begin_joined l c first keys nb ue from steps begins g j k

    restarts_so : goes (Am j.one) (Restart keys) ≡ Am k.one
    restarts_so =
        (restarts_are_deeds c.pdcp_bits j.one keys j.one_data j.one_idle).left
        ∙ ap (λ (b : State). Am b) (sym begins_so.one_is)

    read_so : (es : List LifeEvent) (own : Option FlowLives) → Agrees (told (other from)) es
        → SaysSo c.first (LifeEnded ∷ es) own → IsReadAs c.pdcp_bits (report (closed j.one)) (come_by own)
    read_so es own h says =
        said_so c j.back j.two j.one (told (other from)) _ _ j.back_is j.back_joins j.back_told es h own says

    window_so : (es : List LifeEvent) (own : Option FlowLives) → Agrees (told (other from)) es
        → SaysSo c.first (LifeEnded ∷ es) own → IsInWindow c.pdcp_bits k.two.pdcp.tx (come_by own)
    window_so es own h says =
        let a = told_then (other from) in
        reports_begin_in_window c k.there k.back k.one k.two (report (closed j.one)) (come_by own) k.back_is
        k.there_joins k.back_joins k.back_reports (ap (λ (b : State). b.pdcp.tx.owed) begins_so.one_is)
        (none_passed c k.back k.two k.one a _ _ k.back_is k.back_joins k.back_told (none_then (other from)))
        (least_so c k.back k.two k.one a _ _ k.back_is k.back_joins k.back_told (LifeEnded ∷ es)
        (agrees_then (other from) es h) (come_by own).next says.next)

pub given_moves : (l : ℕ) (c : BearerConfig) (first : Keys) (nb ue : End) (steps : List AirStep) (keys : Keys)
    → AmEndsBeginAlike l c first nb ue → AreLiving l (outset nb ue) (steps ++ Moves keys ∷ [])
    → (t : AreTied l c nb ue steps) (t' : AreTied l c nb ue (steps ++ Moves keys ∷ [])) (down up : List LifeEvent)
    → Agrees (told_from c l Nb steps (outset nb ue)) down → Agrees (told_from c l Ue steps (outset nb ue)) up
    → (of_nb of_ue : Option FlowLives) → SaysSo c.first (LifeEnded ∷ down) of_nb
    → SaysSo c.first (LifeEnded ∷ up) of_ue → (b : Bearer History)
    → AreGivenBy c t.joined.there t.joined.back t.joined.one t.joined.two (running down) (running up) b.nb b.ue
    → let b' = lives_ended histories of_nb of_ue b in
    AreGivenBy c t'.joined.there t'.joined.back t'.joined.one t'.joined.two [] [] b'.nb b'.ue
given_moves l c first nb ue steps keys begins g t t' down up down_agrees up_agrees of_nb of_ue says_nb says_ue b given =
    let j = t.joined in
    let k = t'.joined in
    let later = steps ++ Moves keys ∷ [] in
    let i = from_the_other l c nb ue steps j in
    let m = from_the_other l c nb ue later k in
    next_lives_begin_beside c j.there j.back k.there k.back j.one j.two k.one k.two (running down) (running up) keys
    (come_by of_ue) (come_by of_nb) b.nb b.ue j.one_data j.one_idle j.two_data j.two_idle
    (restarts_so l c first nb ue steps keys begins g Nb j k) (restarts_so l c first nb ue steps keys begins g Ue i m)
    (read_so l c first nb ue steps keys begins g Nb j k up of_ue up_agrees says_ue)
    (read_so l c first nb ue steps keys begins g Ue i m down of_nb down_agrees says_nb)
    (window_so l c first nb ue steps keys begins g Nb j k up of_ue up_agrees says_ue)
    (window_so l c first nb ue steps keys begins g Ue i m down of_nb down_agrees says_nb)
    (just_begun c k.there k.one k.two (told_from c l Nb later (outset nb ue)) _ _ k.there_is k.there_joins k.there_told
    (none_then l c first nb ue steps keys begins g Nb)
    (sizes_told l c nb ue later t' Nb (LifeEnded ∷ down)
    (agrees_then l c first nb ue steps keys begins g Nb down down_agrees)))
    (just_begun c k.back k.two k.one (told_from c l Ue later (outset nb ue)) _ _ k.back_is k.back_joins k.back_told
    (none_then l c first nb ue steps keys begins g Ue)
    (sizes_told l c nb ue later t' Ue (LifeEnded ∷ up)
    (agrees_then l c first nb ue steps keys begins g Ue up up_agrees)))
    given

-- A sender takes SDUs for the first time with the next COUNTs, and others with COUNTs below.
use Rattle.std.proofs.Common.{◌≡◌, ◌≤◌, ℕ, ◌+◌, ◌-◌, ◌==◌, Bool, true, false, if◌then◌else◌, Option, Some, None, List}
use Rattle.std.proofs.Common.{[], ◌∷◌, ◌++◌, map, length, take, refl, ap, sym, subst, ◌∙◌, arith}
use Rattle.std.specs.List.{flat_map}
use Rattle.std.proofs.lemmas.Bool.Decides.{nat_tests}
use Rattle.l2_num.specs.Ascending.{AreBetween}
use Rattle.law_bearer.proofs.AnyBearer.Sender.{doings, AreOfLife, run_more}
use Rattle.pdcp_tx_store.specs.Waiting.{Waits}
use Rattle.pdcp_tx_store.specs.declared.given.Sent.{Sent}
use Rattle.law_pdcp.specs.OneEnd.Lives.{Step, Calls, SetDiscard, Restart, goes, run_pdcp_sender, first_sdu, new_behind}
use Rattle.law_pdcp.specs.OneEnd.Lives.{new_of}
use Rattle.law_pdcp.proofs.OneEnd.Lives.{lives_are_ordered}
use Rattle.pdcp_pdu.specs.declared.pdu.PdcpKind.{PdcpKind}
use Rattle.pdcp_sec.specs.Protection.{Protection}
use Rattle.pdcp_tx.specs.State.{State, Offer, start, offers, owed_offers, again_offer, new_offers, submitted, took}
use Rattle.pdcp_tx.specs.State.{took_owed, took_again, took_new, confirmed, reported, reported_from, fms_count}
use Rattle.pdcp_tx.specs.State.{after_late}
use Rattle.pdcp_tx.specs.Runs.{Submit, Take, Confirm, Report, Owe, Tick, Late, IsOrdered}
use Rattle.promises.specs.Taken.{were_taken, chosen}

-- ---- lists

abbrev pub yes : List (List ℕ) → List Bool
yes sdus = map (λ sdu. true) sdus

abbrev pub no : List (List ℕ) → List Bool
no sdus = map (λ sdu. false) sdus

pub chosen_none : (bs : List Bool) → chosen bs [] ≡ []
chosen_none [] = refl
chosen_none (b ∷ bs) = refl

pub chosen_yes : (sdus rest : List (List ℕ)) (bs : List Bool)
    → chosen (yes sdus ++ bs) (sdus ++ rest) ≡ sdus ++ chosen bs rest
chosen_yes [] rest bs = refl
chosen_yes (sdu ∷ sdus) rest bs = ap (λ (xs : List (List ℕ)). sdu ∷ xs) (chosen_yes sdus rest bs)

pub chosen_no : (sdus rest : List (List ℕ)) (bs : List Bool) → chosen (no sdus ++ bs) (sdus ++ rest) ≡ chosen bs rest
chosen_no [] rest bs = refl
chosen_no (sdu ∷ sdus) rest bs = chosen_no sdus rest bs

-- ---- a take

abbrev pub marked : Option ℕ → List (Option ℕ)
marked None = []
marked (Some count) = Some count ∷ []

abbrev pub marks : List Offer → List (Option ℕ)
marks os = flat_map (λ o. marked o.count) os

-- what is taken, and of it for the first time, from a state to one with a next COUNT
pub record Takes (s : State) (os : List Offer) (news : List (List ℕ)) (n : ℕ) : Type 0 where
  pub next : n ≡ s.next + length news
  pub told : (more : List (Option ℕ)) → were_taken s.next (marks os ++ more) ≡ yes news ++ were_taken n more

new_takes : (ws : List Waits) (s : State) (os : List Offer) (news : List (List ℕ)) (n : ℕ)
    → Takes (took_new ws s) os news n
    → Takes s (take 1 (new_offers s.next ws) ++ os) (first_sdu ws ++ news) n
new_takes [] s os news n h = h
new_takes (w ∷ ws) s os news n h =
    let same : (s.next == s.next) ≡ true = grind (arith, nat_tests) in
    let is = h.next in
    record {
      next = omega (arith, is);
      told = λ more.
          let rest = marks os ++ more in
          ap (λ (b : Bool). if b then true ∷ were_taken (s.next + 1) rest else were_taken s.next rest) same
          ∙ ap (λ (bs : List Bool). true ∷ bs) (h.told more);
    }

reaches : (low : ℕ) (ns : List ℕ) (end : ℕ) → AreBetween low ns end → low ≤ end
reaches low [] end h = h
reaches low (n ∷ ns) end h =
    let first = h.0 in
    let more = reaches (n + 1) ns end h.1 in
    omega (arith, first, more)

again_takes : (ss : List Sent) (s : State) (os : List Offer) (news : List (List ℕ)) (n : ℕ)
    → AreBetween 0 (map (λ x. x.count) ss) s.next → Takes (took_again ss s) os news n
    → Takes s (take 1 (map again_offer ss ++ new_offers s.next (take (s.bound - s.next) s.waiting)) ++ os)
    (new_behind ss s ++ news) n
again_takes [] s os news n b h = new_takes (take (s.bound - s.next) s.waiting) s os news n h
again_takes (x ∷ xs) s os news n b h =
    let below = reaches (x.count + 1) (map (λ x. x.count) xs) s.next b.1 in
    let apart : (x.count == s.next) ≡ false = grind (arith, nat_tests, below) in
    record {
      next = h.next;
      told = λ more.
          let rest = marks os ++ more in
          ap (λ (c : Bool). if c then true ∷ were_taken (s.next + 1) rest else were_taken s.next rest) apart
          ∙ h.told more;
    }

owed_takes : (o : Option (List ℕ)) (s : State) (os : List Offer) (news : List (List ℕ)) (n : ℕ) → IsOrdered s
    → Takes (took_owed o s) os news n
    → Takes s
    (take 1 (owed_offers o ++ map again_offer s.again ++ new_offers s.next (take (s.bound - s.next) s.waiting)) ++ os)
    (new_of o s ++ news) n
owed_takes None s os news n b h = again_takes s.again s os news n b h
owed_takes (Some report) s os news n b h = record { next = h.next; told = h.told }

reported_next : (c : Option ℕ) (s : State) (bitmap : List ℕ) → (reported_from c s bitmap).next ≡ s.next
reported_next None s bitmap = refl
reported_next (Some c) s bitmap = refl

-- ---- any steps of a life

module _ (kind : PdcpKind) (p : Protection) (first : ℕ) where
  -- a sender that has come so far
  pub record WasReached (s : State) : Type 0 where
    pub steps : List Step
    pub is : s ≡ run_pdcp_sender steps (start kind p first)

  pub reached_more : (s : State) (xs : List Step) → WasReached s → WasReached (run_pdcp_sender xs s)
  reached_more s xs r =
      record {
        steps = r.steps ++ xs;
        is = ap (run_pdcp_sender xs) r.is
            ∙ sym (run_more (start kind p first) r.steps xs);
      }

  ordered : (s : State) → WasReached s → IsOrdered s
  ordered s r = subst IsOrdered (sym r.is) (lives_are_ordered kind p first r.steps)

  pub takes_told : (s : State) (xs : List Step) → AreOfLife xs → WasReached s
      → Takes s (doings s xs).taken (doings s xs).news (run_pdcp_sender xs s).next
  unfolding submitted took confirmed reported after_late offers
  takes_told s [] g r = record { next = omega arith; told = λ more. refl }
  takes_told s (Calls (Submit sdu) ∷ xs) g r =
      let h = takes_told (submitted s sdu) xs g.1 (reached_more s (Calls (Submit sdu) ∷ []) r) in
      record { next = h.next; told = h.told }
  takes_told s (Calls Take ∷ xs) g r =
      owed_takes s.owed s (doings (took s) xs).taken (doings (took s) xs).news (run_pdcp_sender xs (took s)).next
      (ordered s r)
      (takes_told (took s) xs g.1 (reached_more s (Calls Take ∷ []) r))
  takes_told s (Calls (Confirm place) ∷ xs) g r =
      let h = takes_told (confirmed s place) xs g.1 (reached_more s (Calls (Confirm place) ∷ []) r) in
      record { next = h.next; told = h.told }
  takes_told s (Calls (Report fms bitmap) ∷ xs) g r =
      let t = reported s fms bitmap in
      let h = takes_told t xs g.1 (reached_more s (Calls (Report fms bitmap) ∷ []) r) in
      let same = reported_next (fms_count s.kind s.base fms) s bitmap in
      record {
        next = h.next ∙ ap (λ (n : ℕ). n + length (doings t xs).news) same;
        told = λ more. ap (λ (n : ℕ). were_taken n (marks (doings t xs).taken ++ more)) (sym same) ∙ h.told more;
      }
  takes_told s (Calls (Owe report) ∷ xs) g r = absurd g.0
  takes_told s (Calls Tick ∷ xs) g r = let h =
      takes_told (goes s (Calls Tick)) xs g.1 (reached_more s (Calls Tick ∷ []) r) in
      record { next = h.next; told = h.told }
  takes_told s (Calls Late ∷ xs) g r = let h =
      takes_told (after_late s) xs g.1 (reached_more s (Calls Late ∷ []) r) in record { next = h.next; told = h.told }
  takes_told s (SetDiscard ttis ∷ xs) g r = let h =
      takes_told (goes s (SetDiscard ttis)) xs g.1 (reached_more s (SetDiscard ttis ∷ []) r) in
      record { next = h.next; told = h.told }
  takes_told s (Restart keys ∷ xs) g r = absurd g.0

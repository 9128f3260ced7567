-- The end of a life: those that have arrived whole come.
use Rattle.std.proofs.Common.{◌≡◌, ◌<◌, ◌≤◌, ℕ, ◌+◌, ◌^◌, Bool, true, false, ◌||◌, List, [], ◌∷◌, Option, Some, None}
use Rattle.std.proofs.Common.{subst, refl, ap, sym, ◌∙◌, arith}
use Rattle.std.specs.Prelude.{if◌then◌else◌}
use Rattle.std.proofs.lemmas.Bool.Decides.{nat_tests}
use Rattle.pdcp_pdu.specs.declared.PdcpKind.TheVariants.{Am}
use Rattle.pdcp_pdu.specs.Kinds.{IsKind}
use Rattle.pdcp_tx.specs.declared.sender.Next.{Next}
use Rattle.pdcp_tx.specs.State.{State}
use Rattle.pdcp_rx.specs.declared.got.Cause.TheVariants.{Reestablished}
use Rattle.pdcp_rx.specs.State.{State as Receiving, arrived}
use Rattle.law_pdcp.specs.AmPair.Flow.{IsReport, with_count, closing, closed}
use Rattle.law_pdcp.proofs.AmPair.Numbers.{has, came}
use Rattle.law_pdcp.proofs.AmPair.Receives.{Receives}
use Rattle.law_pdcp.proofs.AmPair.Passing.{Front, front_skip, front_pass, head_receives, report_ignored, arrived_kind}
use Rattle.law_pdcp.proofs.AmPair.Passing.{arrived_key}
use Rattle.law_pdcp.proofs.AmPair.Sound.{IsWritten}

-- what the receiver is left with
pub record Closes (first : ℕ) (sdus : List (List ℕ)) (s : State) (handed : ℕ
    → Bool) (up : List (List ℕ)) (r : Receiving) : Type 0 where
  pub receives : Receives first sdus handed up r
  pub within : (n : ℕ) → handed n ≡ true → (first ≤ n) × (n < s.next)
  pub hears_am : r.kind ≡ s.kind
  pub key : r.protection ≡ s.protection

-- what the sender is
pub record Stops (bits : ℕ) (s : State) : Type 0 where
  pub width : IsKind (Am bits)
  pub am : s.kind ≡ Am bits
  pub near : s.next ≤ s.bound
  pub few : s.next ≤ 2 ^ 32

-- the rest of the end
abbrev Rest : ℕ → ℕ → List (List ℕ) → State → (ℕ → Bool) → List (List ℕ) → ℕ → List Next → Type 0
Rest bits first sdus s whole up k os = (handed : ℕ → Bool) (r : Receiving) → r.kind ≡ s.kind
    → r.protection ≡ s.protection → Front bits first sdus s handed whole k os → Receives first sdus handed up r
    → Closes first sdus s (closed whole k os handed) up (closing whole k os r)

came_one : (bits first : ℕ) (sdus : List (List ℕ)) (s : State) (whole : ℕ
    → Bool) (up : List (List ℕ)) (k : ℕ) (x : Next) (os : List Next) (o : Option ℕ) → x.count ≡ o → Stops bits s
    → Rest bits first sdus s whole up (k + 1) os
    → (handed : ℕ → Bool) (r : Receiving) → r.kind ≡ s.kind → r.protection ≡ s.protection
    → Front bits first sdus s handed whole k (x ∷ os) → Receives first sdus handed up r
    → Closes first sdus s (closed whole (k + 1) os (with_count x.count handed)) up
    (closing whole (k + 1) os (arrived r x.octets Reestablished))
came_one bits first sdus s whole up k x os None c st next handed r ham key h g =
    let report : IsReport s.kind x.octets =
    subst (λ q. IsWritten first sdus s.kind s.protection q x.octets) c h.written.0 in
    let same : arrived r x.octets Reestablished ≡ r = report_ignored r s.kind x.octets Reestablished ham report in
    let none : (n : ℕ) → (if whole k then has x.count n else false) ≡ false = λ n. let e : has x.count n ≡ false =
    ap (λ q. has q n) c in grind (arith, nat_tests) in
    subst (λ q. Closes first sdus s (closed whole (k + 1) os (with_count q handed)) up
    (closing whole (k + 1) os (arrived r x.octets Reestablished))) (sym c)
    (subst (λ y. Closes first sdus s (closed whole (k + 1) os handed) up (closing whole (k + 1) os y)) (sym same)
    (next handed r ham key (front_skip bits first sdus s handed whole k x os none h) g))
came_one bits first sdus s whole up k x os (Some n) c st next handed r ham key h g =
    subst (λ q. Closes first sdus s (closed whole (k + 1) os (with_count q handed)) up
    (closing whole (k + 1) os (arrived r x.octets Reestablished))) (sym c)
    (next (with_count (Some n) handed) (arrived r x.octets Reestablished)
    (arrived_kind r x.octets Reestablished ∙ ham) (arrived_key r x.octets Reestablished ∙ key)
    (front_pass bits first sdus s handed whole k x os n c h)
    (head_receives bits first sdus s handed whole k x os n up r Reestablished st.width st.am (ham ∙ st.am) key st.near
    st.few c tt h g))

close_one : (bits first : ℕ) (sdus : List (List ℕ)) (s : State) (whole : ℕ
    → Bool) (up : List (List ℕ)) (k : ℕ) (x : Next) (os : List Next) (b : Bool) → whole k ≡ b → Stops bits s
    → Rest bits first sdus s whole up (k + 1) os
    → (handed : ℕ → Bool) (r : Receiving) → r.kind ≡ s.kind → r.protection ≡ s.protection
    → Front bits first sdus s handed whole k (x ∷ os) → Receives first sdus handed up r
    → Closes first sdus s (closed whole (k + 1) os (if b then with_count x.count handed else handed)) up
    (closing whole (k + 1) os (if b then arrived r x.octets Reestablished else r))
close_one bits first sdus s whole up k x os true w st next handed r ham key h g =
    came_one bits first sdus s whole up k x os x.count refl st next handed r ham key h g
close_one bits first sdus s whole up k x os false w st next handed r ham key h g =
    next handed r ham key
    (front_skip bits first sdus s handed whole k x os
    (λ n. ap (λ (b : Bool). if b then has x.count n else false) w) h) g

pub closes : (bits first : ℕ) (sdus : List (List ℕ)) (s : State) (whole : ℕ
    → Bool) (up : List (List ℕ)) (os : List Next) (k : ℕ) → Stops bits s → Rest bits first sdus s whole up k os
closes bits first sdus s whole up [] k st handed r ham key h g =
    record { receives = g; within = h.within; hears_am = ham; key = key }
closes bits first sdus s whole up (x ∷ os) k st handed r ham key h g =
    close_one bits first sdus s whole up k x os (whole k) refl st
    (λ handed' r'. closes bits first sdus s whole up os (k + 1) st handed' r') handed r ham key h g

-- ---- all that came in the life, and all that has arrived whole, has come

with_more : (c : Option ℕ) (handed : ℕ → Bool) (n : ℕ) → handed n ≡ true → with_count c handed n ≡ true
with_more None handed n e = e
with_more (Some c) handed n e = grind (arith, nat_tests)

if_more : (b : Bool) (c : Option ℕ) (handed : ℕ → Bool) (n : ℕ) → handed n ≡ true
    → (if b then with_count c handed else handed) n ≡ true
if_more true c handed n e = with_more c handed n e
if_more false c handed n e = e

pub closed_more : (whole : ℕ → Bool) (os : List Next) (k : ℕ) (handed : ℕ → Bool) (n : ℕ) → handed n ≡ true
    → closed whole k os handed n ≡ true
closed_more whole [] k handed n e = e
closed_more whole (x ∷ os) k handed n e =
    closed_more whole os (k + 1) (if whole k then with_count x.count handed else handed) n
    (if_more (whole k) x.count handed n e)

with_one : (c : Option ℕ) (handed : ℕ → Bool) (n : ℕ) → has c n ≡ true → with_count c handed n ≡ true
with_one None handed n e = let no : false ≡ true = e in cc
with_one (Some c) handed n e = grind (arith, nat_tests)

if_one : (b : Bool) (c : Option ℕ) (handed : ℕ → Bool) (n : ℕ) → (if b then has c n else false) ≡ true
    → (if b then with_count c handed else handed) n ≡ true
if_one true c handed n e = with_one c handed n e
if_one false c handed n e = let no : false ≡ true = e in cc

came_step : (whole : ℕ → Bool) (os : List Next) (k : ℕ) (more : ℕ → Bool) (n : ℕ) (b : Bool)
    → (b ≡ true → more n ≡ true) → (came whole (k + 1) os n ≡ true → closed whole (k + 1) os more n ≡ true)
    → b || came whole (k + 1) os n ≡ true → closed whole (k + 1) os more n ≡ true
came_step whole os k more n true f g e = closed_more whole os (k + 1) more n (f refl)
came_step whole os k more n false f g e = g e

pub closed_came : (whole : ℕ → Bool) (os : List Next) (k : ℕ) (handed : ℕ → Bool) (n : ℕ) → came whole k os n ≡ true
    → closed whole k os handed n ≡ true
closed_came whole [] k handed n e = let no : false ≡ true = e in cc
closed_came whole (x ∷ os) k handed n e =
    came_step whole os k (if whole k then with_count x.count handed else handed) n
    (if whole k then has x.count n else false) (if_one (whole k) x.count handed n)
    (closed_came whole os (k + 1) (if whole k then with_count x.count handed else handed) n) e

-- What a call answers that is checked first.
use Rattle.std.proofs.Common.{◌≡◌, ℕ, ◌-◌, length, Some, None, Ok, Err, Option, Result, IsErrAnd, ap, ◌∙◌, arith}
use Rattle.line.specs.Meaning.{Meaning}
use Rattle.rules.specs.declared.fault.Fault.{Fault}
use Rattle.engine.specs.Calls.{outcome, decided, more, unless}
use Rattle.market.specs.Host.{Host}

-- the fault of the check is passed on
pub refused : {X : Type 0} (h after : Host) (fault : Option Fault) (x : X) (f : Fault) (r : Result (ℕ × ℕ) Fault)
    → Err f ≡ unless fault x
    → IsErrAnd r (λ e. e ≡ f)
    → outcome r h ≡ decided h fault after
refused h after None x f r e is = let z : ◌≡◌ {A = ℕ} 0 1 = cc in absurd (omega arith)
refused h after (Some g) x f (Ok n) e is = absurd is
refused h after (Some g) x f (Err y) e is = cc

-- the call runs, and counts what it adds
pub passed : {X : Type 0} (h k : Host) (done : X → Host) (fault : Option Fault) (x t : X) (before n : ℕ × ℕ)
    → Ok t ≡ unless fault x
    → k ≡ done t
    → before ≡ (length h.feed.waiting, length h.replies.waiting)
    → n ≡ (length k.feed.waiting - before.0, length k.replies.waiting - before.1)
    → outcome (Ok n) k ≡ decided h fault (done x)
passed h k done None x t before n e is was counts =
    let same : t ≡ x = cc in
    ap (λ (p : ℕ × ℕ). outcome (Ok p) k) (counts ∙ ap (λ (p : ℕ × ℕ). (length k.feed.waiting - p.0, length k.replies.waiting - p.1)) was)
    ∙ ap (λ (z : Host). outcome (Ok (more h.feed z.feed, more h.replies z.replies)) z) (is ∙ ap done same)
passed h k done (Some f) x t before n e is was counts = let z : ◌≡◌ {A = ℕ} 0 1 = cc in absurd (omega arith)

none_more : (m : Meaning) → 0 ≡ more m m
none_more m = omega arith

-- a call that adds no message to either line
pub silent : (h after last : Host) (fault : Option Fault)
    → None ≡ fault
    → last ≡ after
    → h.feed ≡ after.feed
    → h.replies ≡ after.replies
    → outcome (Ok (0, 0)) last ≡ decided h fault after
silent h after last fault none is feed replies =
    ap (outcome (Ok (0, 0))) is
    ∙ ap (λ n. outcome (Ok (n, 0)) after) (none_more h.feed ∙ ap (more h.feed) feed)
    ∙ ap (λ n. outcome (Ok (more h.feed after.feed, n)) after) (none_more h.replies ∙ ap (more h.replies) replies)
    ∙ ap (λ f. decided h f after) none

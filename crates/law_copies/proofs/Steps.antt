-- What every call, and so every run, does to accounts and orders.
use Rattle.std.proofs.Common.{◌≡◌, ℕ, zero, suc, ◌<◌, Bool, true, false, cond, List, [], ◌∷◌, ◌++◌, length, Some, None, Ok, Err, Option, Result, refl, ◌∙◌, arith}
use Rattle.std.specs.List.{AllByRecursion}
use Rattle.std.proofs.ByRecursion.{All-append, All-map}
use Rattle.std.proofs.lemmas.Bool.{leb-false}
use Rattle.fields.specs.Letters.{event_of}
use Rattle.fields.specs.declared.letters.BookState.{BookState}
use Rattle.fields.specs.declared.letters.BookState.TheVariants.{Trading}
use Rattle.fields.specs.declared.letters.Event.{Event}
use Rattle.line.specs.Meaning.{Meaning}
use Rattle.ouch.specs.Inbound.{Asked, inbound}
use Rattle.ouch.specs.declared.inbound.MessageFault.{MessageFault}
use Rattle.ouch.specs.declared.letters.DayEvent.{DayEvent}
use Rattle.ouch.specs.declared.reply.Reply.{Reply}
use Rattle.ouch.specs.declared.reply.Reply.TheVariants as reply
use Rattle.rules.specs.Loading.{account_of}
use Rattle.rules.specs.Tables.{book_or, same_state, suspended}
use Rattle.rules.specs.declared.fault.Fault.{Fault}
use Rattle.rules.specs.declared.tables.Book.{Book}
use Rattle.engine.specs.Calls as calls
use Rattle.engine.specs.Calls.{decided, day_event, happened, informed, message_fault, message_done, message_read, replied_each, shot_unless, snapshot_fault, stated}
use Rattle.market.specs.Changes.{announcement, published, published_all, trading_only}
use Rattle.market.specs.Host.{Host, with_accounts, with_clock}
use Rattle.market.specs.declared.change.Change.{Change}
use Rattle.market.specs.declared.change.Change.TheVariants as change
use Rattle.law.specs.Runs.{Call, Day, load_row, load_book, load_account, begin, message, drop_account, event, state, reference, snapshot, collect, run, step, then}
use Rattle.law_copies.proofs.Keys.{thins_self}
use Rattle.law_copies.proofs.Moves.{Moves, moves_answered, moves_self, moves_swept, moves_unless}
use Rattle.law_copies.proofs.Tokens.{goes_then, goes_thins, loaded_last}

-- ---- changes that touch no order

abbrev pub Plain : Change → Type 0
Plain c = (h : Host) (t : ℕ) → ((published h t c).accounts ≡ h.accounts) × ((published h t c).orders ≡ h.orders)

pub plain_all : (h : Host) (t : ℕ) (cs : List Change) → AllByRecursion Plain cs → ((published_all h t cs).accounts ≡ h.accounts) × ((published_all h t cs).orders ≡ h.orders)
plain_all h t [] p = (refl, refl)
plain_all h t (c ∷ cs) p =
    let f = p.0 h t in
    let g = plain_all (published h t c) t cs p.1 in
    (g.0 ∙ f.0, g.1 ∙ f.1)

each : {X : Type 0} (P : X → Type 0) → ((x : X) → P x) → (xs : List X) → AllByRecursion P xs
each P f [] = tt
each P f (x ∷ xs) = (f x, each P f xs)

plain_trading : (bs : List Book) → AllByRecursion Plain (trading_only bs)
plain_trading [] = tt
plain_trading (b ∷ bs) = by (suspended b) (plain_trading bs)
  where
    by : (s : Bool) → AllByRecursion Plain (trading_only bs) → AllByRecursion Plain (cond s (trading_only bs) (change.State b.code Trading ∷ trading_only bs))
    by true r = r
    by false r = ((λ h t. (refl, refl)), r)

pub plain-announcement : (h : Host) → AllByRecursion Plain (announcement h)
plain-announcement h = (
  (λ h t. (refl, refl)),
  All-append Plain _ _ (All-map Plain change.Tick h.rows (each _ (λ r h t. (refl, refl)) h.rows))
      (All-append Plain _ _ (All-map Plain change.Directory h.books (each _ (λ b h t. (refl, refl)) h.books))
      (All-append Plain _ _ (All-map Plain (λ (b : Book). change.Reference b.code b.reference) h.books (each _ (λ b h t. (refl, refl)) h.books))
      (plain_trading h.books))),
)

-- the same accounts and orders
moves_same : (h i : Host) → i.accounts ≡ h.accounts → i.orders ≡ h.orders → Moves h i
moves_same h i e f = rw (e, f) (moves_self h)

moves_begun : (h : Host) (t : ℕ) → Moves h (calls.begin_done h t)
moves_begun h t = let p = plain_all (with_clock h t) t (announcement h) (plain-announcement h) in moves_same h (calls.begin_done h t) p.0 p.1

-- ---- an event, a state

pub each_same : (n : ℕ) (h : Host) (r : Reply) → ((replied_each n h r).accounts ≡ h.accounts) × ((replied_each n h r).orders ≡ h.orders)
unfolding replied_each
each_same zero h r = (refl, refl)
each_same (suc n) h r = each_same n h r

moves_informed : (h : Host) (t : ℕ) (o : Option DayEvent) → Moves h (informed h t o)
moves_informed h t None = moves_self h
moves_informed h t (Some e) =
    let r : Reply = reply.SystemEvent (record { time = t; event = e }) in
    let p = each_same (length h.accounts) h r in
    moves_same h (replied_each (length h.accounts) h r) p.0 p.1

moves_happened : (h : Host) (t : ℕ) (o : Option Event) → Moves h (happened h t o)
moves_happened h t None = moves_self h
moves_happened h t (Some e) = moves_informed (published h t (change.Event e)) t (day_event e)

moves_stated : (h : Host) (t code : ℕ) (s : BookState) → Moves h (stated h t code s)
moves_stated h t code s = moves_unless h (published h t (change.State code s)) (same_state (book_or code h.books).state s) (λ _. moves_self h)

-- ---- an account is loaded

moves_loaded : (h : Host) (name : List ℕ) → Moves h (with_accounts h (h.accounts ++ (account_of name ∷ [])))
moves_loaded h name =
    goes_thins h.accounts (h.accounts ++ (account_of name ∷ [])) h.orders h.orders
    (λ b. let e = loaded_last h.accounts (account_of name) refl b in omega arith) (thins_self h.orders)

-- ---- the calls

-- a refused call changes nothing
moves_decided : (h i : Host) (f : Option Fault) → (f ≡ None → Moves h i) → Moves h (decided h f i).after
moves_decided h i (Some f) m = moves_self h
moves_decided h i None m = m refl

-- where no test applies, the first does not, nor any of the rest
pub untested : {A : Type 0} (b : Bool) (f : A) (rest : Option A) → cond b (Some f) rest ≡ None → (b ≡ false) × (rest ≡ None)
untested true f rest e = let z : ◌≡◌ {A = ℕ} 0 1 = cc in absurd (omega arith)
untested false f rest e = (refl, e)

-- an accepted message is from an account that is loaded
pub message_loaded : (h : Host) (t account : ℕ) → message_fault h t account ≡ None → account < length h.accounts
message_loaded h t account e = leb-false _ _ (untested _ _ _ (untested _ _ _ e).1).0

moves_read : (h : Host) (t account : ℕ) (r : Result Asked MessageFault) → Moves h (message_read h t account r).after
moves_read h t account (Err f) = moves_self h
moves_read h t account (Ok m) =
    moves_decided h (message_done h t account m) (message_fault h t account)
    (λ e. moves_answered (with_clock h t) t account m (message_loaded h t account e))

moves_shot : (h : Host) (t : ℕ) (l : Meaning) (f : Option Fault) → Moves h (shot_unless h t l f).after
moves_shot h t l (Some f) = moves_self h
moves_shot h t l None = moves_self h

pub moves_step : (h : Host) (c : Call) → Moves h (step h c).after
unfolding step calls.load_row calls.load_book calls.load_account calls.begin calls.message calls.drop calls.event calls.state calls.reference calls.snapshot calls.collect
moves_step h (load_row r) = moves_decided h _ (calls.load_row_fault h r) (λ _. moves_self h)
moves_step h (load_book b) = moves_decided h _ (calls.load_book_fault h b) (λ _. moves_self h)
moves_step h (load_account name) = moves_decided h _ (calls.load_account_fault h name) (λ _. moves_loaded h name)
moves_step h (begin t) = moves_decided h (calls.begin_done h t) (calls.begin_fault h t) (λ _. moves_begun h t)
moves_step h (message t account bytes) = moves_read h t account (inbound bytes)
moves_step h (drop_account t account) = moves_decided h (calls.drop_done h t account) (calls.drop_fault h t account) (λ _. moves_swept (with_clock h t) t account)
moves_step h (event t letter) = moves_decided h (calls.event_done h t letter) (calls.event_fault h t letter) (λ _. moves_happened (with_clock h t) t (event_of letter))
moves_step h (state t code letter) = moves_decided h (calls.state_done h t code letter) _ (λ _. moves_stated (with_clock h t) t code _)
moves_step h (reference t code y) = moves_decided h (calls.reference_done h t code y) _ (λ _. moves_self h)
moves_step h (snapshot t l) = moves_shot h t l (snapshot_fault h t l)
moves_step h collect = moves_decided h (calls.collect_done h) (calls.collect_fault h) (λ _. moves_self h)

pub moves_run : (d : Day) (cs : List Call) → Moves d.host (run d cs).host
unfolding run
moves_run d [] = moves_self d.host
moves_run d (c ∷ cs) = goes_then _ _ _ _ _ _ (moves_step d.host c) (moves_run (then d c) cs)

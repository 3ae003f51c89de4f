use Rattle.std.proofs.Common.{◌≡◌, w32, to_z, of_z, rules}
use Rattle.dayfile.proofs.command.Tag.value.Goals as goal

pub returns-in-Row : goal.returns-in-Row
returns-in-Row c =
    let p : to_z w32 (of_z w32 c.at-in-Row-2.result) ≡ c.at-in-Row-2.result = search rules in
    rw c.in-Row.is (cc)

pub returns-in-Book : goal.returns-in-Book
returns-in-Book c =
    let p : to_z w32 (of_z w32 c.at-in-Book-5.result) ≡ c.at-in-Book-5.result = search rules in
    let q : to_z w32 (of_z w32 c.at-in-Book-6.result) ≡ c.at-in-Book-6.result = search rules in
    let r : to_z w32 (of_z w32 c.at-in-Book-8.result) ≡ c.at-in-Book-8.result = search rules in
    rw c.in-Book.is (cc)

pub returns-in-Account : goal.returns-in-Account
returns-in-Account c = rw c.in-Account.is (cc)

pub returns-in-Begin : goal.returns-in-Begin
returns-in-Begin c = rw c.in-Begin.is (cc)

pub returns-in-Event : goal.returns-in-Event
returns-in-Event c = rw c.in-Event.is (cc)

pub returns-in-State : goal.returns-in-State
returns-in-State c = rw c.in-State.is (cc)

pub returns-in-Reference : goal.returns-in-Reference
returns-in-Reference c =
    let p : to_z w32 (of_z w32 c.at-in-Reference-3.result) ≡ c.at-in-Reference-3.result = search rules in
    rw c.in-Reference.is (cc)

pub returns-in-Drop : goal.returns-in-Drop
returns-in-Drop c = rw c.in-Drop.is (cc)

use Rattle.std.proofs.Common.{◌≡◌, ◌++◌, length, take, drop}
use Rattle.store.specs.Records.{those, without}
use Rattle.store.proofs.withdraw.withdraw_all.Given as goal

-- what is left to do from the place where the walk goes on gives the whole
abbrev pub invariant-loop-k : goal.invariant-loop-k
invariant-loop-k g l = record {
  left : take l.start (g.S.Records.list l.live) ++ without l.account (drop l.start (g.S.Records.list l.live)) ≡ without l.account (g.S.Records.list l.initial.live);
  moved : g.W.Records.list l.withdrawn ++ those l.account (drop l.start (g.S.Records.list l.live)) ≡ g.W.Records.list l.initial.withdrawn ++ those l.account (g.S.Records.list l.initial.live);
  live_room : g.S.Records.room l.live ≡ g.S.Records.room l.initial.live;
  withdrawn_room : g.W.Records.room l.withdrawn ≡ g.W.Records.room l.initial.withdrawn;
}

abbrev pub decreases-loop-k : goal.decreases-loop-k
decreases-loop-k g l = length (g.S.Records.list l.live)

-- The watcher has seen more and more of the register's history.
use mathlib.Core.List.{IsPrefix}
use Rattle.pd_register.specs.Seats.{IsWatcherOf, watched_history}
use Rattle.app_serve.proofs.watchers.WatchersObserver.run.Given as goal

abbrev pub invariant-loop-place : goal.invariant-loop-place
invariant-loop-place g l = record {
  own : IsWatcherOf l.register l.watcher;
  later : IsPrefix (watched_history l.initial.watcher) (watched_history l.watcher);
}

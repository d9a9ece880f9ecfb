-- What is written so far and the requests that are left make the whole.
use Rattle.std.proofs.Common.{◌≡◌, ◌++◌, drop}
use Rattle.std.specs.List.{flat_map}
use Rattle.programs.specs.inner.Seen.{request_line}
use Rattle.programs.proofs.running.seen.put_requests.Given as goal

abbrev pub invariant-loop-request : goal.invariant-loop-request
invariant-loop-request l =
    l.fn.out.items ++ flat_map request_line l.fn.requests ≡ l.out.items ++ flat_map request_line (drop l.request-index l.requests)

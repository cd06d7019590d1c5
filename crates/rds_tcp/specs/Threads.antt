-- What contracts see of the threads that a wire has started. This project's own.
use Rattle.std.specs.Prelude.{◌≡◌, ℕ, true, All, vec_len}
use Rattle.rds_tcp.specs.declared.handles.Handles.{Handles}

-- how many of these threads are still to be joined
abbrev pub unjoined : Handles → ℕ
unjoined threads = vec_len threads.all

-- each thread kept what it promised of its end, which nothing but its join tells
abbrev pub HaveEnded : Handles → Type 0
HaveEnded threads = All (λ handle. handle.promise.0.value ≡ true) threads.all.items

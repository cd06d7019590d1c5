-- What a getter shows of all putters of its queue. Source: this project's own.
use Rattle.std.specs.Prelude.{◌≡◌, ℕ, ◌≤◌, List, [], All, Option, length, map}
use Rattle.rds_seats.specs.Views.{Each}
use Rattle.rds_mail.specs.Numbers.{Number}
use Rattle.rds_mail.specs.Shared.{IsPart}
use Rattle.rds_mail.specs.Passes.{Getter, Putter, account_of}
use Rattle.rds_mail.specs.Merging.{AreAll, IsMerged, KeysBegin}
use Rattle.rds_host_end.specs.Joins.{AreMarked, PutsAreTold, KeysAre}
use Rattle.rds_fmap.specs.Readers.{HasSeen, NeverFalls, ReaderView, WriterView}
use Rattle.rds_fmap.specs.Versions.{IsSeenIn}
use Rattle.rds_fmap.specs.declared.seen.Seen.{Seen}
use Rattle.rds_socket_parts.specs.Lanes.{Lane}

-- these routes have readers of the writer's maps
abbrev pub AreReadersOf : WriterView → List (Lane ReaderView) → Type 0
AreReadersOf w lanes = All (λ lane. lane.reader.pair ≡ w.pair) lanes

-- each look of a reader found what the map of its version has, among these, and no version older than an earlier look at the same word found
abbrev pub HasLookedAt : List (List ℕ) → ReaderView → Type 0
HasLookedAt published r = ((port : ℕ) (seen : Seen) → HasSeen r port seen → IsSeenIn published port seen) × NeverFalls r.found

-- so it is of the readers of these routes
abbrev pub HaveLookedAt : List (List ℕ) → List (Lane ReaderView) → Type 0
HaveLookedAt published lanes = All (λ lane. HasLookedAt published lane.reader) lanes

module _ {T : Type 0} where
  -- these are the putters of the getter's queue: all that there are, where there are any, and none was joined yet
  pub record ArePuttersOf (g : Getter T) (puts : List (Putter T)) : Type 0 where
    pub mails : All (λ p. p.mail ≡ g.mail) puts
    pub none : g.joined ≡ []
    pub all : 1 ≤ length puts → AreAll (map account_of puts)

  -- What the getter got with each putter's mark begins what that has put with it. It is all of it where the getter was told of
  -- all that was put, and got that. And what it got is theirs, where there are any.
  pub record ShowsAllPuts (key : T → Option ℕ) (Own : ℕ → T → Type 0) (g : Getter T) (puts : List (Putter T)) : Type 0 where
    pub begin : (mark : Number → ℕ) → AreMarked Own mark (map account_of puts) → KeysBegin key mark g.got (map account_of puts)
    pub all : (mark : Number → ℕ) → AreMarked Own mark (map account_of puts) → Each g.told (IsPart g.got) → PutsAreTold g.told (map account_of puts) →
        KeysAre key mark g.got (map account_of puts)
    pub merged : 1 ≤ length puts → IsMerged g.got (map account_of puts)

-- Worked scripts: whole scripts and their texts. Source: this project's own.
use Rattle.std.specs.Prelude.{ℕ, List, [], ◌∷◌, codes}
use Rattle.std.specs.List.{flat_map}
use Rattle.rds_script.specs.declared.script.Placed.{Placed}
use Rattle.rds_script.specs.declared.script.Command.{Command}
use Rattle.rds_script.specs.declared.script.Command.TheVariants.{Bind, Send, Recv, Open, Move, Cut, Cancel, Drain}
use Rattle.rds_text.specs.Lines.{text_line}

-- a command of line 0, since lines don't matter for what it does
abbrev pub at_line_0 : Command → Placed
at_line_0 command = record { line = 0; command = command }

-- a text by its lines
abbrev pub text_of_lines : List (List ℕ) → List ℕ
text_of_lines lines = flat_map (λ l. text_line (l ∷ [])) lines

-- one datagram goes from host A to host B
abbrev pub hello : List Placed
hello =
    at_line_0 (Bind 0 4000 65536 65536) ∷ at_line_0 (Bind 1 4001 65536 65536) ∷ at_line_0 (Send 0 4000 1 4001 (codes "hello"))
    ∷ at_line_0 Drain ∷ at_line_0 (Recv 1 4001) ∷ []

abbrev pub text_of_hello : List ℕ
text_of_hello = text_of_lines (
    codes "bind A 4000 slot 0"
    ∷ codes "bind B 4001 slot 0"
    ∷ codes "A:B accept n=1 slot=0 4000>4001 data=68656c6c6f"
    ∷ codes "A:B open k=1"
    ∷ codes "B:A open k=1"
    ∷ codes "A:B pull k=1 map ack=0 set=-"
    ∷ codes "B:A read k=1 map ack=0 set=-"
    ∷ codes "A:B pull k=1 data n=1 ack=0 flags=02 4000>4001 len=5"
    ∷ codes "B:A read k=1 data n=1 ack=0 flags=02 4000>4001 len=5 slot 0"
    ∷ codes "B:A pull k=1 map ack=1 set=-"
    ∷ codes "A:B read k=1 map ack=1 set=-"
    ∷ codes "drained"
    ∷ codes "recv B 4001 A:4000 data=68656c6c6f"
    ∷ codes "A:4000>B:4001 accepted 1 received 1 unread 0 dropped 0 port0 0 cancelled 0 pending 0"
    ∷ codes " data=68656c6c6f"
    ∷ codes "end ok"
    ∷ [])

-- a stream is cut in the middle of a datagram, a datagram is cancelled, one goes to port 0, and a port becomes congested
abbrev pub cut_cancel_ping_congestion : List Placed
cut_cancel_ping_congestion =
    at_line_0 (Bind 0 4000 16 64)
    ∷ at_line_0 (Bind 1 4001 64 4)
    ∷ at_line_0 (Send 0 4000 1 4001 (codes "abc"))
    ∷ at_line_0 (Send 0 4000 1 9 (codes "de"))
    ∷ at_line_0 (Send 0 4000 1 0 ([]))
    ∷ at_line_0 (Open 0 1)
    ∷ at_line_0 (Move 0 1 8290)
    ∷ at_line_0 (Cut 0 1)
    ∷ at_line_0 (Cancel 0 4000 1 9)
    ∷ at_line_0 Drain
    ∷ at_line_0 (Send 0 4000 1 4001 (codes "fgh"))
    ∷ at_line_0 Drain
    ∷ at_line_0 (Send 0 4000 1 4001 (codes "i"))
    ∷ at_line_0 (Recv 1 4001)
    ∷ []

abbrev pub text_of_cut_cancel_ping_congestion : List ℕ
text_of_cut_cancel_ping_congestion = text_of_lines (
    codes "bind A 4000 slot 0"
    ∷ codes "bind B 4001 slot 0"
    ∷ codes "A:B accept n=1 slot=0 4000>4001 data=616263"
    ∷ codes "A:B accept n=2 slot=0 4000>9 data=6465"
    ∷ codes "A:B accept n=3 slot=0 4000>0 data=-"
    ∷ codes "A:B open k=1"
    ∷ codes "B:A open k=1"
    ∷ codes "A:B pull k=1 map ack=0 set=-"
    ∷ codes "B:A read k=1 map ack=0 set=-"
    ∷ codes "A:B pull k=1 data n=1 ack=0 flags=00 4000>4001 len=3"
    ∷ codes "move A B moved 8290"
    ∷ codes "cut A B lost 1 0"
    ∷ codes "A:B shut k=1"
    ∷ codes "B:A shut k=1"
    ∷ codes "A:B cancel slot=0 dport=9 begun=- unbegun=2"
    ∷ codes "A:B open k=2"
    ∷ codes "B:A open k=2"
    ∷ codes "A:B pull k=2 map ack=0 set=-"
    ∷ codes "B:A read k=2 map ack=0 set=-"
    ∷ codes "A:B pull k=2 data n=1 ack=0 flags=06 4000>4001 len=3"
    ∷ codes "B:A read k=2 data n=1 ack=0 flags=06 4000>4001 len=3 slot 0"
    ∷ codes "A:B pull k=2 data n=3 ack=0 flags=02 4000>0 len=0"
    ∷ codes "B:A read k=2 data n=3 ack=0 flags=02 4000>0 len=0 ping"
    ∷ codes "B:A accept n=1 slot=- 0>4000 data=-"
    ∷ codes "B:A pull k=2 map ack=3 set=-"
    ∷ codes "A:B read k=2 map ack=3 set=-"
    ∷ codes "B:A pull k=2 data n=1 ack=3 flags=02 0>4000 len=0"
    ∷ codes "A:B read k=2 data n=1 ack=3 flags=02 0>4000 len=0 slot 0"
    ∷ codes "A:B pull k=2 ack ack=1 flags=00"
    ∷ codes "B:A read k=2 ack ack=1 flags=00"
    ∷ codes "drained"
    ∷ codes "A:B accept n=4 slot=0 4000>4001 data=666768"
    ∷ codes "A:B pull k=2 data n=4 ack=1 flags=02 4000>4001 len=3"
    ∷ codes "B:A read k=2 data n=4 ack=1 flags=02 4000>4001 len=3 slot 0"
    ∷ codes "mark B 4001 set queued=6 limit=4"
    ∷ codes "B:A pull k=2 map ack=4 set=4001"
    ∷ codes "A:B read k=2 map ack=4 set=4001"
    ∷ codes "drained"
    ∷ codes "send A:4000 B:4001 refused congested 2"
    ∷ codes "recv B 4001 A:4000 data=616263"
    ∷ codes "B:0>A:4000 accepted 1 received 0 unread 1 dropped 0 port0 0 cancelled 0 pending 0"
    ∷ codes "A:4000>B:0 accepted 1 received 0 unread 0 dropped 0 port0 1 cancelled 0 pending 0"
    ∷ codes "A:4000>B:9 accepted 1 received 0 unread 0 dropped 0 port0 0 cancelled 1 pending 0"
    ∷ codes "A:4000>B:4001 accepted 2 received 1 unread 1 dropped 0 port0 0 cancelled 0 pending 0"
    ∷ codes " data=616263"
    ∷ codes "end ok"
    ∷ [])

-- between three hosts: a stream is cut in the middle of a datagram and others stay, a datagram is cancelled, one goes to
-- port 0 and is answered, and two senders make a port congested
abbrev pub three_hosts : List Placed
three_hosts =
    at_line_0 (Bind 0 4000 16 64)
    ∷ at_line_0 (Bind 1 4001 64 4)
    ∷ at_line_0 (Bind 2 4002 16 64)
    ∷ at_line_0 (Send 0 4000 1 4001 (codes "abc"))
    ∷ at_line_0 (Send 2 4002 1 4001 (codes "de"))
    ∷ at_line_0 (Send 0 4000 2 9 (codes "f"))
    ∷ at_line_0 (Send 2 4002 0 0 ([]))
    ∷ at_line_0 (Open 0 1)
    ∷ at_line_0 (Move 0 1 8290)
    ∷ at_line_0 (Cut 0 1)
    ∷ at_line_0 (Cancel 0 4000 2 9)
    ∷ at_line_0 Drain
    ∷ at_line_0 (Send 0 4000 1 4001 (codes "g"))
    ∷ at_line_0 (Recv 1 4001)
    ∷ []

abbrev pub text_of_three_hosts : List ℕ
text_of_three_hosts = text_of_lines (
    codes "bind A 4000 slot 0"
    ∷ codes "bind B 4001 slot 0"
    ∷ codes "bind C 4002 slot 0"
    ∷ codes "A:B accept n=1 slot=0 4000>4001 data=616263"
    ∷ codes "C:B accept n=1 slot=0 4002>4001 data=6465"
    ∷ codes "A:C accept n=1 slot=0 4000>9 data=66"
    ∷ codes "C:A accept n=1 slot=0 4002>0 data=-"
    ∷ codes "A:B open k=1"
    ∷ codes "B:A open k=1"
    ∷ codes "A:B pull k=1 map ack=0 set=-"
    ∷ codes "B:A read k=1 map ack=0 set=-"
    ∷ codes "A:B pull k=1 data n=1 ack=0 flags=02 4000>4001 len=3"
    ∷ codes "move A B moved 8290"
    ∷ codes "cut A B lost 1 0"
    ∷ codes "A:B shut k=1"
    ∷ codes "B:A shut k=1"
    ∷ codes "A:C cancel slot=0 dport=9 begun=- unbegun=1"
    ∷ codes "A:B open k=2"
    ∷ codes "B:A open k=2"
    ∷ codes "A:C open k=1"
    ∷ codes "C:A open k=1"
    ∷ codes "B:C open k=1"
    ∷ codes "C:B open k=1"
    ∷ codes "A:B pull k=2 map ack=0 set=-"
    ∷ codes "B:A read k=2 map ack=0 set=-"
    ∷ codes "A:B pull k=2 data n=1 ack=0 flags=06 4000>4001 len=3"
    ∷ codes "B:A read k=2 data n=1 ack=0 flags=06 4000>4001 len=3 slot 0"
    ∷ codes "B:A pull k=2 map ack=1 set=-"
    ∷ codes "A:B read k=2 map ack=1 set=-"
    ∷ codes "A:C pull k=1 map ack=0 set=-"
    ∷ codes "C:A read k=1 map ack=0 set=-"
    ∷ codes "C:A pull k=1 map ack=0 set=-"
    ∷ codes "A:C read k=1 map ack=0 set=-"
    ∷ codes "C:A pull k=1 data n=1 ack=0 flags=02 4002>0 len=0"
    ∷ codes "A:C read k=1 data n=1 ack=0 flags=02 4002>0 len=0 ping"
    ∷ codes "A:C accept n=2 slot=- 0>4002 data=-"
    ∷ codes "B:C pull k=1 map ack=0 set=-"
    ∷ codes "C:B read k=1 map ack=0 set=-"
    ∷ codes "C:B pull k=1 map ack=0 set=-"
    ∷ codes "B:C read k=1 map ack=0 set=-"
    ∷ codes "C:B pull k=1 data n=1 ack=0 flags=02 4002>4001 len=2"
    ∷ codes "B:C read k=1 data n=1 ack=0 flags=02 4002>4001 len=2 slot 0"
    ∷ codes "mark B 4001 set queued=5 limit=4"
    ∷ codes "B:A pull k=2 map ack=1 set=4001"
    ∷ codes "A:B read k=2 map ack=1 set=4001"
    ∷ codes "A:C pull k=1 data n=2 ack=1 flags=02 0>4002 len=0"
    ∷ codes "C:A read k=1 data n=2 ack=1 flags=02 0>4002 len=0 slot 0"
    ∷ codes "C:A pull k=1 ack ack=2 flags=00"
    ∷ codes "A:C read k=1 ack ack=2 flags=00"
    ∷ codes "B:C pull k=1 map ack=1 set=4001"
    ∷ codes "C:B read k=1 map ack=1 set=4001"
    ∷ codes "drained"
    ∷ codes "send A:4000 B:4001 refused congested 2"
    ∷ codes "recv B 4001 A:4000 data=616263"
    ∷ codes "C:4002>A:0 accepted 1 received 0 unread 0 dropped 0 port0 1 cancelled 0 pending 0"
    ∷ codes "A:4000>B:4001 accepted 1 received 1 unread 0 dropped 0 port0 0 cancelled 0 pending 0"
    ∷ codes " data=616263"
    ∷ codes "C:4002>B:4001 accepted 1 received 0 unread 1 dropped 0 port0 0 cancelled 0 pending 0"
    ∷ codes "A:4000>C:9 accepted 1 received 0 unread 0 dropped 0 port0 0 cancelled 1 pending 0"
    ∷ codes "A:0>C:4002 accepted 1 received 0 unread 1 dropped 0 port0 0 cancelled 0 pending 0"
    ∷ codes "end ok"
    ∷ [])

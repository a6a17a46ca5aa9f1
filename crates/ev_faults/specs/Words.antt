-- Faults of etcd, and of the way to it, as an operator reads them.
use Rattle.std.specs.Prelude.{ℕ, ℤ, List, ◌++◌, codes}
use Rattle.std.specs.Fmt.{decimal, signed_decimal}
use Rattle.ev_fields.specs.declared.fault.JsonFault.{JsonFault}
use Rattle.ev_fields.specs.declared.fault.JsonFault.TheVariants as json
use Rattle.ev_http.specs.declared.fault.HttpFault.{HttpFault}
use Rattle.ev_http.specs.declared.fault.HttpFault.TheVariants as http
use Rattle.zx_net.specs.declared.net.NetFault.{NetFault}
use Rattle.zx_net.specs.declared.net.NetFault.TheVariants as net
use Rattle.ev_faults.specs.declared.fault.Fault.{Fault}
use Rattle.ev_faults.specs.declared.fault.Fault.TheVariants as fault

unfoldable pub http_words : HttpFault → List ℕ
http_words http.Head = codes "what came is no HTTP answer"
http_words (http.Status n) = codes "status " ++ decimal n
http_words http.Route = codes "what came is no answer"
http_words (http.Body place) = codes "the answer is broken at byte " ++ decimal place
http_words (http.TooLong limit) = codes "the answer has more than " ++ (decimal limit ++ codes " bytes")
http_words (http.Ended taken) = codes "the connection ended"
http_words http.Idle = codes "no answer within a minute"
http_words http.ReadFault = codes "the connection cannot be read"
http_words http.WriteFault = codes "the connection cannot be written"
http_words http.Memory = codes "out of memory"

unfoldable pub json_words : JsonFault → List ℕ
json_words json.NotJson = codes "what came cannot be understood"
json_words (json.Unreadable field) = codes "what came cannot be understood"
json_words json.Memory = codes "out of memory"

unfoldable pub net_words : NetFault → List ℕ
net_words net.InUse = codes "something listens there already"
net_words net.NoAddress = codes "this machine has no such address"
net_words net.Denied = codes "this program may not listen there"
net_words net.NoRoom = codes "no descriptor is left"
net_words net.Failed = codes "it cannot be listened on"

unfoldable pub dial_words : NetFault → List ℕ
dial_words net.InUse = codes "it cannot be dialled"
dial_words net.NoAddress = codes "there is no such host: an endpoint is HOST:PORT"
dial_words net.Denied = codes "this program may not dial it"
dial_words net.NoRoom = codes "no descriptor is left"
dial_words net.Failed = codes "nobody answers there: is etcd up, and is this its port for clients?"

abbrev pub gap_words : ℤ → ℤ → List ℕ
gap_words expected found = codes "update " ++ (signed_decimal expected ++ (codes " is missing, " ++ (signed_decimal found ++ codes " came")))

abbrev pub behind_words : ℤ → List ℕ
behind_words rev = codes "it is at revision " ++ (signed_decimal rev ++ codes ", behind what was told already: perhaps a restored backup")

unfoldable pub words : Fault → List ℕ
words fault.First = codes "it gave no answer: is this the port for clients of an etcd 3.4 or newer, and has its cluster a leader?"
words (fault.Undialled why) = dial_words why
words fault.Dial = codes "nobody answers"
words (fault.Http why) = http_words why
words (fault.Json why) = json_words why
words fault.Ended = codes "etcd ended it"
words (fault.Compacted rev) = codes "updates before revision " ++ (signed_decimal rev ++ codes " were compacted unread")
words (fault.Gap expected found) = gap_words expected found
words fault.Damaged = codes "a value is no record of this service"
words fault.NoLine = codes "ten tries in a row gave nothing"
words fault.Silent = codes "nothing came for 25 minutes"
words (fault.Behind rev) = behind_words rev
words fault.NoRoom = codes "no descriptor is left"
words (fault.Listen why) = net_words why
words fault.Thread = codes "a thread could not be started"
words fault.Scheme = codes "an endpoint is HOST:PORT, without http://"
words fault.Memory = codes "out of memory"

-- What a packet is among the answers that a request about watches gets by what is armed.
use Rattle.std.proofs.Common.{◌≡◌, Bool, true, false, List, ℕ, sym, ap, ◌∙◌}
use Rattle.std.specs.Prelude.{◌||◌}
use Rattle.zk_jute.specs.Requests.{Frame}
use Rattle.zk_model.specs.Codes.{no_watcher}
use Rattle.zk_model.specs.declared.reply.Body.TheVariants as body
use Rattle.zk_model.specs.declared.reply.Reply.TheVariants as reply
use Rattle.zk_service.specs.Answers.{asks_of_watches}
use Rattle.zk_least.specs.LeastWalk.{is_answer, is_watch_answer}

pub unasked : (x : Frame) (bytes : List ℕ) → asks_of_watches x ≡ false → false ≡ is_watch_answer x bytes (asks_of_watches x)
unasked x bytes asked = sym (ap (is_watch_answer x bytes) asked)

pub either_first : (a b : Bool) → a ≡ true → true ≡ (a || b)
either_first a b e = sym (ap (λ (x : Bool). x || b) e)

pub either_last : (a b : Bool) → a ≡ false → b ≡ (a || b)
either_last a b e = sym (ap (λ (x : Bool). x || b) e)

pub found : (x : Frame) (bytes : List ℕ) → asks_of_watches x ≡ true → is_answer x bytes (reply.Good body.Empty) ≡ true → true ≡ is_watch_answer x bytes (asks_of_watches x)
found x bytes asked first = either_first _ (is_answer x bytes (reply.Refused no_watcher)) first ∙ sym (ap (is_watch_answer x bytes) asked)

pub missed : (x : Frame) (bytes : List ℕ) → asks_of_watches x ≡ true → is_answer x bytes (reply.Good body.Empty) ≡ false
    → is_answer x bytes (reply.Refused no_watcher) ≡ is_watch_answer x bytes (asks_of_watches x)
missed x bytes asked first = either_last _ (is_answer x bytes (reply.Refused no_watcher)) first ∙ sym (ap (is_watch_answer x bytes) asked)

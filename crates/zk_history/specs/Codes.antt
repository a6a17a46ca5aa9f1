-- How a proof tells two states apart: by the parts of their records.
use Rattle.std.specs.Prelude.{◌≡◌, ℕ, zero, suc, ℤ, Bool, true, false, List, refl}
use Rattle.std.specs.Coded.{Coded, code_by, coded×, coded_bool, coded_list, coded_ℕ, coded_ℤ}
use Rattle.std.specs.FinMap as finmap
use Rattle.zx_base.specs.Maps.{Bytes}
use Rattle.zk_model.specs.declared.layout.Layout.TheVariants.{One, Two}
use Rattle.zk_model.specs.declared.layout.Layout.{Layout}
use Rattle.zk_model.specs.declared.node.Trigger.{Trigger}
use Rattle.zk_model.specs.declared.node.Trigger.TheVariants.{Created, Deleted, Changed, Children}
use Rattle.zk_model.specs.Znodes.{Tree}
use Rattle.zk_service.specs.States.{Session, Sessions, State}
use Rattle.zk_machine.specs.Entries.{coded_tree}

-- whether the layout is layout 2
abbrev pub is_two : Layout → Bool
is_two One = false
is_two Two = true

abbrev pub layout_by : Bool → Layout
layout_by false = One
layout_by true = Two

abbrev pub layout_back : (l : Layout) → layout_by (is_two l) ≡ l
layout_back One = refl
layout_back Two = refl

abbrev pub coded_layout : Coded Layout
coded_layout = code_by Bool coded_bool is_two layout_by layout_back

abbrev pub coded_session : Coded Session
coded_session = code_by (List ℕ × (ℤ × (Layout × (ℕ × (ℤ × Bool))))) (coded× (coded_list coded_ℕ) (coded× coded_ℤ (coded× coded_layout (coded× coded_ℕ (coded× coded_ℤ coded_bool)))))
    (λ s. (s.passwd, (s.timeout, (s.layout, (s.connection, (s.attached, s.lapsed))))))
    (λ t. record { passwd = t.0; timeout = t.1.0; layout = t.1.1.0; connection = t.1.1.1.0; attached = t.1.1.1.1.0; lapsed = t.1.1.1.1.1 })
    (λ s. refl)

abbrev pub coded_sessions : Coded Sessions
coded_sessions = finmap.code coded_ℤ coded_session

-- a trigger as the number of its kind, and its path
abbrev pub trigger_parts : Trigger → ℕ × Bytes
trigger_parts (Created p) = (0, p)
trigger_parts (Deleted p) = (1, p)
trigger_parts (Changed p) = (2, p)
trigger_parts (Children p) = (3, p)

abbrev pub trigger_of : ℕ → Bytes → Trigger
trigger_of zero p = Created p
trigger_of (suc zero) p = Deleted p
trigger_of (suc (suc zero)) p = Changed p
trigger_of (suc (suc (suc n))) p = Children p

abbrev pub trigger_back : (g : Trigger) → trigger_of (trigger_parts g).0 (trigger_parts g).1 ≡ g
trigger_back (Created p) = refl
trigger_back (Deleted p) = refl
trigger_back (Changed p) = refl
trigger_back (Children p) = refl

abbrev pub coded_trigger : Coded Trigger
coded_trigger = code_by (ℕ × Bytes) (coded× coded_ℕ (coded_list coded_ℕ)) trigger_parts (λ t. trigger_of t.0 t.1) trigger_back

abbrev pub coded_state : Coded State
coded_state = code_by (Tree × (ℤ × (ℕ × (List Trigger × Sessions)))) (coded× coded_tree (coded× coded_ℤ (coded× coded_ℕ (coded× (coded_list coded_trigger) coded_sessions))))
    (λ s. (s.tree, (s.zxid, (s.updates, (s.triggers, s.sessions)))))
    (λ t. record { tree = t.0; zxid = t.1.0; updates = t.1.1.0; triggers = t.1.1.1.0; sessions = t.1.1.1.1 })
    (λ s. refl)

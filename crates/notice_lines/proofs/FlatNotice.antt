-- A notification has no floats, and nests a few levels deep.
use Rattle.std.proofs.Common.{ℕ, Bool, List, codes}
use Rattle.serde_json.specs.Data.{Data}
use Rattle.ikeless_tree.specs.declared.sad.Limits.{Limits}
use Rattle.ikeless_tree.specs.declared.entry.Selector.{Selector}
use Rattle.ikeless_tree.specs.declared.order.Notice.{Notice}
use Rattle.ikeless_tree.specs.declared.order.Notice.TheVariants as notices
use Rattle.json_tree.proofs.FlatRows.{flat_bool, flat_counts}
use Rattle.json_tree.proofs.Flat.{IsFlat, flat_put, flat_none, flat_object, flat_string, flat_count, flat_selector, flat_only}
use Rattle.notice_lines.specs.Envelope.{acquire_data, expire_data, event_name, event_data, envelope_data, notice_data}

flat_acquire : (policy : List ℕ) (s : Selector) → IsFlat 4 (acquire_data policy s)
unfolding acquire_data
flat_acquire policy s =
    flat_object 3 _ (flat_put 3 (codes "ipsec-policy-name") _ _ (flat_string 3 policy)
    (flat_put 3 (codes "traffic-selector") _ _ (flat_selector s) (flat_none 3)))

flat_expire : (name : List ℕ) (soft : Bool) (l : Limits) → IsFlat 4 (expire_data name soft l)
unfolding expire_data
flat_expire name soft l = flat_object 3 _ (flat_put 3 (codes "ipsec-sa-name") _ _ (flat_string 3 name)
    (flat_put 3 (codes "lifetime-current") _ _ (flat_counts l) (flat_put 3 (codes "soft-lifetime-expire") _ _ (flat_bool 3 soft)
    (flat_none 3))))

flat_event : (n : Notice) → IsFlat 4 (event_data n)
flat_event (notices.Acquire policy selector) = flat_acquire policy selector
flat_event (notices.Expire name soft current) = flat_expire name soft current
flat_event (notices.SeqOverflow name) = flat_only 3 (codes "ipsec-sa-name") _ (flat_string 3 name)
flat_event (notices.BadSpi spi) = flat_only 3 (codes "spi") _ (flat_count 3 spi)

flat_envelope : (stamp name : List ℕ) (event : Data) → IsFlat 4 event → IsFlat 5 (envelope_data stamp name event)
unfolding envelope_data
flat_envelope stamp name event flat =
    flat_object 4 _ (flat_put 4 (codes "eventTime") _ _ (flat_string 4 stamp) (flat_put 4 name event _ flat (flat_none 4)))

pub flat_notice : (n : Notice) (stamp : List ℕ) → IsFlat 6 (notice_data n stamp)
flat_notice n stamp = flat_only 5 (codes "ietf-restconf:notification") _ (flat_envelope stamp (event_name n) (event_data n) (flat_event n))
